-- A driver and the service that it controls, over all its epochs and reopenings: what may happen to them, in any order
-- and any number of times.
use Rattle.std.specs.Prelude.{◌≡◌, ◌<◌, ℕ, Bool, true, Option, Some, List, [], ◌∷◌, length, map, slice_get}
use Rattle.sm_plan_code.specs.declared.limits.TheConstants.{MOST_PLACES}
pub use Rattle.laws_network.specs.World.{World}
pub use Rattle.laws_network.specs.Reopening.{Arrives, Comes, Confirm, Entry, Fenced, Forgets, Message, Records, Reopen}
pub use Rattle.laws_network.specs.Reopening.{Settled, Settlement, Settling, SettlingEvent, Told, Took, entered, records}
pub use Rattle.laws_network.specs.Reopening.{settling_comes}
pub use Rattle.laws_network.specs.ReopeningLaws.{AllTook, IsGivenUp, no_reopening}
pub use Rattle.laws_network.specs.FleetReopening.{FleetCanReopen, IsOneOf, settling_of}
pub use Rattle.sm_driver.specs.Driver.{DriverModel, base, record_of}
pub use Rattle.sm_driver.specs.Orders.{epoch_base}
pub use Rattle.sm_driver.specs.Permits.{permit_of}
pub use Rattle.laws_driver.specs.Driven.{Driven, Fleet, IsControllerOf, IsDrivenOpening, Turn, TurnFits, after_turn}
pub use Rattle.laws_driver.specs.Driven.{controller, driver_setup}
pub use Rattle.laws_driver.specs.DrivenLaws.{IsJustOpened}
pub use Rattle.laws_reopening.specs.Renumbering.{IsFleetInForceAs, IsRenumberedAs, Renumbering}
pub use Rattle.sm_reopening.specs.declared.ongoing.OngoingReopening.{OngoingReopening}
pub use Rattle.sm_reopening.specs.Faults.{MayConfirm}
pub use Rattle.sm_reopening.specs.Ongoing.{net_reopening, recorded_place}

-- A driver with its service at a moment.
pub data Controlled : Type 0 where
  -- it runs plans over its fleet
  Drives : (x : Driven) → Controlled
  -- its plans have ended, and a reopening is under way over the fleet: as its controller keeps it, and as it is over
  -- the network
  Settles : (x : Driven) (ongoing : OngoingReopening) (settling : Settling) → Controlled

-- An event: something happens to servers and network, or the driver takes a command.
pub data ControlledEvent : Type 0 where
  -- a turn of the driver and its fleet
  Turns : (turn : Turn) → ControlledEvent
  -- a reopening begins, and is this one then; the world has all that was sent before
  Reopens : (world : World) (base servers : ℕ) (lost : ℕ → Bool) (ongoing : OngoingReopening) → ControlledEvent
  -- something happens while a reopening is under way, and its controller writes nothing
  Meets : (event : SettlingEvent) → ControlledEvent
  -- the controller writes this of the reopening, which is this one then
  Writes : (entry : Entry) (ongoing : OngoingReopening) → ControlledEvent
  -- what was settled is in force: in numbers of its own it is this settlement, on which this driver opens over this
  -- fleet
  Opens : (numbers : Renumbering) (opening : Settlement) (driver : DriverModel) (fleet : Fleet) → ControlledEvent

-- what an event does
abbrev pub controlled_comes : Controlled → ControlledEvent → Controlled
controlled_comes (Drives x) (Turns t) = Drives (after_turn x t)
controlled_comes (Drives x) (Reopens world base servers lost new) = Settles x new (records (settling_of x.fleet world) (Reopen base servers lost))
controlled_comes (Settles x ongoing y) (Meets e) = Settles x ongoing (settling_comes y e).1
controlled_comes (Settles x ongoing y) (Writes entry new) = Settles x new (records y entry)
controlled_comes (Settles x ongoing y) (Opens n new driver fleet) = Drives (record { driver = driver; fleet = fleet })
controlled_comes c _ = c

-- after a list of events
abbrev pub controlled_run : List ControlledEvent → Controlled → Controlled
controlled_run [] c = c
controlled_run (e ∷ es) c = controlled_run es (controlled_comes c e)

-- ---- which events may come

-- whoever is given up never serves again with its old slots
abbrev pub AreGivenUp : Settling → (ℕ → Bool) → Type 0
AreGivenUp y lost = (v : ℕ) → lost v ≡ true → IsGivenUp y v

-- The driver takes the command to reopen: by its contract, the reopening is of a later epoch, over what the driver has
-- recorded.
pub record MayReopenAs (x : Driven) (world : World) (number servers : ℕ) (lost : ℕ → Bool) (new : OngoingReopening) : Type 0 where
  pub reopening : net_reopening new
      ≡ entered (Reopen number servers lost) (no_reopening (length (driver_setup x).servers))
  pub place : recorded_place new ≡ (record_of x.driver).place
  pub epoch : ℕ
  pub later : x.driver.epoch < epoch
  pub number_is : number ≡ epoch_base epoch
  pub over : FleetCanReopen (driver_setup x) x.fleet
  pub world_is : over.world ≡ world
  pub given_up : AreGivenUp (settling_of x.fleet world) lost

-- a message that is no answer for the controller, if there is one
abbrev pub IsNoAnswer : Option Message → Type 0
IsNoAnswer (Some (Fenced p base inventory)) = ⊥
IsNoAnswer (Some (Settled p base)) = ⊥
IsNoAnswer _ = Unit {0}

-- the controller writes nothing by this event
abbrev pub WritesNone : Settling → SettlingEvent → Type 0
WritesNone y (Records e) = ⊥
WritesNone y (Arrives k reached) = IsNoAnswer (slice_get y.messages k)
WritesNone y _ = Unit {0}

-- by its contract, the command may be taken: one reopening replaces another under a higher number, and a settlement may
-- be confirmed
abbrev pub MayWrite : OngoingReopening → Entry → Type 0
MayWrite ongoing (Reopen number servers lost) = (net_reopening ongoing).base < number
MayWrite ongoing (Confirm s) = MayConfirm ongoing s
MayWrite ongoing _ = Unit {0}

-- the entry tells the truth: an answer was given, and who is given up is gone
abbrev pub IsTrue : Settling → Entry → Type 0
IsTrue y (Reopen number servers lost) = AreGivenUp y lost
IsTrue y (Told p base inventory) = IsOneOf y.messages (Fenced p base inventory)
IsTrue y (Confirm s) = Unit {0}
IsTrue y (Took p base) = IsOneOf y.messages (Settled p base)

-- The controller takes a command of the reopening, and writes this entry of it.
pub record MayWriteAs (ongoing : OngoingReopening) (y : Settling) (entry : Entry) (new : OngoingReopening) : Type 0 where
  pub may : MayWrite ongoing entry
  pub truth : IsTrue y entry
  pub reopening : net_reopening new ≡ entered entry (net_reopening ongoing)
  pub place : recorded_place new ≡ recorded_place ongoing

-- versions of the map are below the length of the longest log, as those of a document are, which are 0
abbrev pub AreLow : (ℕ → ℕ) → Type 0
AreLow versions = (s : ℕ) → versions s < MOST_PLACES

-- permits of before, in new numbers
abbrev pub permits_as : Renumbering → List (Option ℕ) → List (Option ℕ)
permits_as n before = map (permit_of before) n.servers

-- All have taken the settlement, and by its contract the driver opens on it in numbers of its own, as the controller of
-- a fleet in force.
pub record MayOpenAs (x : Driven) (ongoing : OngoingReopening) (y : Settling) (n : Renumbering) (new : Settlement) (driver : DriverModel) (fleet : Fleet) : Type 0 where
  pub settlement : Settlement
  pub settled : (net_reopening ongoing).settlement ≡ Some settlement
  pub took : AllTook (net_reopening ongoing)
  pub renumbered : IsRenumberedAs n settlement new
  pub opened : IsJustOpened new.setup new.place new.room (permits_as n x.driver.permits) driver
  pub base_is : base driver ≡ (net_reopening ongoing).base
  pub fence_is : driver.fence ≡ (net_reopening ongoing).base
  pub low : AreLow new.place.version
  pub force : IsFleetInForceAs y n new fleet
  pub control : IsControllerOf driver fleet.start

-- the event may come now
abbrev pub ControlledFits : Controlled → ControlledEvent → Type 0
ControlledFits (Drives x) (Turns t) = TurnFits x t
ControlledFits (Drives x) (Reopens world number servers lost new) = MayReopenAs x world number servers lost new
ControlledFits (Settles x ongoing y) (Meets e) = WritesNone y e
ControlledFits (Settles x ongoing y) (Writes entry new) = MayWriteAs ongoing y entry new
ControlledFits (Settles x ongoing y) (Opens n new driver fleet) = MayOpenAs x ongoing y n new driver fleet
ControlledFits c _ = ⊥

-- each of these events may come when it does
abbrev pub AllControlledFit : List ControlledEvent → Controlled → Type 0
AllControlledFit [] c = Unit {0}
AllControlledFit (e ∷ es) c = ControlledFits c e × AllControlledFit es (controlled_comes c e)

-- Events lead from an opening to this.
pub record IsControlledReached (c : Controlled) : Type 0 where
  pub first : Driven
  pub opening : IsDrivenOpening first
  pub low : AreLow (record_of first.driver).opening.version
  pub events : List ControlledEvent
  pub fit : AllControlledFit events (Drives first)
  pub state : c ≡ controlled_run events (Drives first)

-- so it is wherever events lead
abbrev pub EachControlled : (Controlled → Type 0) → Type 0
EachControlled P = (c : Controlled) → IsControlledReached c → P c
