-- The laws of a driver and its service, behind their premises.
use Rattle.std.specs.Prelude.{◌≡◌, ◌≤◌, ◌<◌, ℕ, ◌+◌, Bool, Some, [], length}
use Rattle.sm_placement.specs.Place.{Place}
use Rattle.sm_placement.specs.Setup.{Setup}
use Rattle.sm_protocol.specs.Laws.{IsOpening}
use Rattle.laws_network.specs.Controller.{EPOCH}
use Rattle.sm_driver.specs.Permits.{AreEarlierPermits}
use Rattle.laws_driver.specs.Driven.{IsDrivenReached}
use Rattle.laws_driver.specs.DrivenLaws.{IsDrivenSafely}
use Rattle.laws_reopening.specs.OrderLaws.{OldOrdersRest, OrderActsOnce}
use Rattle.laws_reopening.specs.Service.{IsServiceReached, Reopens as ServiceReopens, Runs, Service}
use Rattle.laws_reopening.specs.PermitLaws.{PermitEndsOnce}
use Rattle.laws_reopening.specs.ServiceLaws.{ServiceIsSafe}
use Rattle.laws_service.specs.Controlled.{AllTook, AreGivenUp, AreLow, Controlled, Driven, DriverModel, Drives, Fleet}
use Rattle.laws_service.specs.Controlled.{IsControlledReached, IsControllerOf, IsJustOpened, IsRenumberedAs}
use Rattle.laws_service.specs.Controlled.{ControlledFits, OngoingReopening, Opens, Renumbering, Reopen, Reopens}
use Rattle.laws_service.specs.Controlled.{Settlement, Settles, Settling, World, base, controller, driver_setup, entered}
use Rattle.laws_service.specs.Controlled.{epoch_base, net_reopening, no_reopening, permits_as, record_of}
use Rattle.laws_service.specs.Controlled.{recorded_place, settling_of}

-- ---- the relation of a driver to its service

-- the driver
abbrev pub driver_at : Controlled → DriverModel
driver_at (Drives x) = x.driver
driver_at (Settles x ongoing y) = x.driver

-- the service: at the driver's fleet, or in the reopening that began over it
abbrev pub service_of : Controlled → Service
service_of (Drives x) = Runs (driver_setup x) x.fleet
service_of (Settles x ongoing y) = ServiceReopens (driver_setup x) x.fleet y

-- A reopening as its controller keeps it is the one that is under way over the network, over what the driver has
-- recorded, and in a later epoch.
pub record IsReopeningOf (x : Driven) (ongoing : OngoingReopening) (y : Settling) : Type 0 where
  pub reopening : net_reopening ongoing ≡ y.reopening
  pub record_is : y.world.net.w ≡ record_of x.driver
  pub place : recorded_place ongoing ≡ (record_of x.driver).place
  pub base_is : y.world.net.base ≡ base x.driver
  pub later : base x.driver + EPOCH ≤ y.reopening.base

-- The driver is the service's controller, and a reopening that it has under way is the service's. Between reopenings
-- turns lead to the driver and its fleet, so that whatever holds of these holds of it.
abbrev pub IsControlled : Controlled → Type 0
IsControlled (Drives x) = IsControllerOf x.driver (controller x.fleet) × IsDrivenReached x
IsControlled (Settles x ongoing y) = IsControllerOf x.driver (controller x.fleet) × IsReopeningOf x ongoing y

-- The service is one that its laws are about, and the driver is its controller.
abbrev pub IsServiceControlled : Controlled → Type 0
IsServiceControlled c = IsServiceReached (service_of c) × IsControlled c

-- ---- laws

-- while the driver runs plans, all laws of the fleet hold of its fleet
abbrev pub IsFleetSafe : Controlled → Type 0
IsFleetSafe (Drives x) = IsDrivenSafely x
IsFleetSafe (Settles x ongoing y) = Unit {0}

-- So all laws of the service hold of the driver's, whatever is under way.
pub record IsControlledSafely (c : Controlled) : Type 0 where
  pub fleet : IsFleetSafe c
  pub safe : ServiceIsSafe (service_of c)
  pub permits : PermitEndsOnce (service_of c)
  pub orders : OrderActsOnce (service_of c)
  pub old_orders : OldOrdersRest (service_of c)

-- The version of each publication, base and all, stays below the base of the next epoch.
abbrev pub VersionsStayBelow : Controlled → Type 0
VersionsStayBelow c = (s : ℕ) → (record_of (driver_at c)).place.version s < EPOCH

-- ---- events that may come

-- The first driver of a journal has a service, whose servers have what the placement says.
abbrev pub ControlledOpens : Type 0
ControlledOpens = (setup : Setup) (p : Place) (room : ℕ) (d : DriverModel) → IsOpening setup p room
    → IsJustOpened setup p room [] d → d.fence ≡ 0 → AreLow p.version →
    (f : Fleet) × IsControlledReached (Drives (record { driver = d; fleet = f }))
    × ((s v : ℕ) → ((f.servers v).slots s).cell ≡ p.cells s v)

-- Whenever the driver runs plans, it can reopen: there is a world for each reopening of a later epoch that begins over
-- what it has recorded, if those that are given up are gone.
abbrev pub DriverCanReopen : Controlled → Type 0
DriverCanReopen (Settles x ongoing y) = Unit {0}
DriverCanReopen (Drives x) = (epoch servers : ℕ) (lost : ℕ → Bool) (new : OngoingReopening) → x.driver.epoch < epoch →
    net_reopening new ≡ entered (Reopen (epoch_base epoch) servers lost) (no_reopening (length (driver_setup x).servers)) →
    recorded_place new ≡ (record_of x.driver).place → ((world : World) → AreGivenUp (settling_of x.fleet world) lost) →
    (world : World) × ControlledFits (Drives x) (Reopens world (epoch_base epoch) servers lost new)

-- Once all have taken the settlement, a driver that opens on it, in whatever numbers, has a fleet.
abbrev pub DriverCanOpen : Controlled → Type 0
DriverCanOpen (Drives x) = Unit {0}
DriverCanOpen (Settles x ongoing y) = (s new : Settlement) (n : Renumbering) (d : DriverModel)
    → (net_reopening ongoing).settlement ≡ Some s → AllTook (net_reopening ongoing) →
    IsRenumberedAs n s new → IsJustOpened new.setup new.place new.room (permits_as n x.driver.permits) d
    → AreEarlierPermits (base d) (permits_as n x.driver.permits) →
    base d ≡ (net_reopening ongoing).base → d.fence ≡ (net_reopening ongoing).base → AreLow new.place.version →
    (g : Fleet) × ControlledFits (Settles x ongoing y) (Opens n new d g)
