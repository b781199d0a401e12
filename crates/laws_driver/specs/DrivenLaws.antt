-- The laws of a driver and its fleet, behind their premises.
use Rattle.std.specs.Prelude.{◌≡◌, ℕ, ◌++◌, Option, Some, None, List, [], option_map, replicate, length}
use Rattle.std.specs.Option.{option_to_list}
use Rattle.sm_placement.specs.Setup.{sizes_of}
use Rattle.sm_placement.specs.Place.{Place}
use Rattle.sm_protocol.specs.State.{opened}
use Rattle.sm_protocol.specs.Laws.{IsOpening}
use Rattle.laws_network.specs.Controller.{Controller, Letter, Notice, Order, Publication, StreamId, order_of}
use Rattle.laws_network.specs.Controller.{publication_of}
use Rattle.laws_network.specs.Fleet.{SendOrder, SendPublication, fleet_run}
use Rattle.laws_network.specs.FleetLaws.{AllFleetFit, ArePermits, BeginningsAreHarmless, CommitsOncePerNumber}
use Rattle.laws_network.specs.FleetLaws.{CommitsWhereUp, ExecutesAtOneServer, FleetCanFinish, FleetIsReached}
use Rattle.laws_network.specs.FleetLaws.{FleetIsSafe, MapIsRight, NoLetterIsRefused, OnlyPresentCommits, PermitsEndOnce}
use Rattle.laws_network.specs.FleetLaws.{PresentIsHeard, ServersAreAtEnds, ServersAreNear, ServersAreRecorded}
use Rattle.laws_network.specs.FleetLaws.{SomeFleetCanGoOn}
use Rattle.sm_driver.specs.Driver.{base, record_of}
use Rattle.sm_driver.specs.Permits.{AreEarlierPermits, opening_permits}
use Rattle.laws_driver.specs.Driven.{Command, Driven, DriverModel, Fleet, FleetEvent, IsControllerOf, IsDrivenOpening}
use Rattle.laws_driver.specs.Driven.{IsFleetReached, JournalEntry, Setup, Takes, TurnFits, controller, fleet_comes}
use Rattle.laws_driver.specs.Driven.{driver_setup, with_entries}

-- The fleet is one that the laws of the fleet are about, and the driver is its controller.
abbrev pub IsFleetDriven : Driven → Type 0
IsFleetDriven x = IsFleetReached (driver_setup x) x.fleet × IsControllerOf x.driver (controller x.fleet)

-- A command writes events of the fleet that all fit: servers, map and whatever was sent stay as they were.
abbrev pub CommandsAreEvents : Driven → Type 0
CommandsAreEvents x = (command : Command) (driver : DriverModel) (es : List JournalEntry)
    → TurnFits x (Takes command driver es) →
    (events : List FleetEvent) × AllFleetFit (driver_setup x) x.fleet events
    × (fleet_run events x.fleet ≡ with_entries x.fleet es)

-- So all laws of the fleet hold of the fleet of a driver.
pub record IsDrivenSafely (x : Driven) : Type 0 where
  pub reached : FleetIsReached (driver_setup x) x.fleet
  pub safe : FleetIsSafe (driver_setup x) x.fleet
  pub executes : ExecutesAtOneServer (driver_setup x) x.fleet
  pub refuses : NoLetterIsRefused (driver_setup x) x.fleet
  pub hears : PresentIsHeard (driver_setup x) x.fleet
  pub commits : OnlyPresentCommits (driver_setup x) x.fleet
  pub once : CommitsOncePerNumber (driver_setup x) x.fleet
  pub up : CommitsWhereUp (driver_setup x) x.fleet
  pub permits : PermitsEndOnce (driver_setup x) x.fleet
  pub near : ServersAreNear (driver_setup x) x.fleet
  pub recorded : ServersAreRecorded (driver_setup x) x.fleet
  pub ends : ServersAreAtEnds (driver_setup x) x.fleet
  pub shown : MapIsRight (driver_setup x) x.fleet
  pub beginnings : BeginningsAreHarmless (driver_setup x) x.fleet
  pub goes_on : SomeFleetCanGoOn (driver_setup x) x.fleet
  pub finishes : FleetCanFinish (driver_setup x) x.fleet

-- Whatever led to it: if the driver is the controller of a fleet that events lead to.
abbrev pub FleetDrivenIsSafe : Type 0
FleetDrivenIsSafe = (x : Driven) → IsFleetDriven x → IsDrivenSafely x

-- ---- what the driver sends

-- an order as the driver sends it, with the load and the room of its configuration
abbrev pub driver_letter : DriverModel → Order → Letter
driver_letter d o = record {
  order = o;
  journal = d.journal;
  fence = d.fence;
  load = (sizes_of d.machine.placement.setup).load o.call.shard;
  room = (sizes_of d.machine.placement.setup).room o.call.server;
}

-- a publication as the driver sends it
abbrev pub driver_notice : DriverModel → Publication → Notice
driver_notice d p = record { publication = p; journal = d.journal; fence = d.fence }

-- The fleet's controller sends for a stream exactly the driver's messages: its order, and its publication.
pub record SendsAsDriven (x : Driven) : Type 0 where
  pub orders : (id : StreamId) → (fleet_comes x.fleet (SendOrder 0 id)).1 ≡
      record x.fleet { sent = x.fleet.sent ++ option_to_list (option_map (driver_letter x.driver) (order_of (base x.driver) (record_of x.driver) id)) }
  pub publications : (id : StreamId) → (fleet_comes x.fleet (SendPublication 0 id)).1 ≡
      record x.fleet { published = x.fleet.published ++ option_to_list (option_map (driver_notice x.driver) (publication_of (base x.driver) (record_of x.driver) id)) }

-- ---- openings

-- By its contract, a driver has just been opened over this placement, with these permits of before, if any.
pub record IsJustOpened (rows : Setup) (p : Place) (room : ℕ) (before : List (Option ℕ)) (d : DriverModel) : Type 0 where
  pub state : record_of d ≡ opened (sizes_of rows) p room
  pub setup : d.machine.placement.setup ≡ rows
  pub permits : d.permits ≡ opening_permits (base d) before (length rows.servers) p.down
  pub restores : d.restores ≡ replicate (length rows.servers) None
  pub copies : d.copies ≡ replicate (length rows.shards) 1

-- there is a fleet that opens, and the driver is its controller
abbrev pub HasFleet : DriverModel → Type 0
HasFleet d = (f : Fleet) × IsDrivenOpening (record { driver = d; fleet = f })

-- The first driver of a journal is the controller of a fleet that opens, whose servers have the cells of the placement.
abbrev pub DriversOpen : Type 0
DriversOpen = (setup : Setup) (p : Place) (room : ℕ) (d : DriverModel) → IsOpening setup p room
    → IsJustOpened setup p room [] d → d.fence ≡ 0 →
    (f : Fleet) × IsDrivenOpening (record { driver = d; fleet = f })
    × ((s v : ℕ) → ((f.servers v).slots s).cell ≡ p.cells s v)

-- A driver that has just been opened, with permits of before, is a controller that has given no restore, and whose
-- permits are apart.
abbrev pub OpenedControls : Type 0
OpenedControls = (setup : Setup) (p : Place) (room : ℕ) (before : List (Option ℕ)) (d : DriverModel)
    → IsOpening setup p room → IsJustOpened setup p room before d →
    AreEarlierPermits (base d) before → (c : Controller) × IsControllerOf d c × (c.restores ≡ []) × ArePermits c
