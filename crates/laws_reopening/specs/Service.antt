-- The service over all its epochs: a controller runs plans over a fleet; a reopening begins over it, may be replaced by
-- another at any point, settles the servers, and a controller opens on the fleet that comes of it.
use Rattle.std.specs.Prelude.{◌≡◌, ◌⊎◌, ◌<◌, ℕ, ◌+◌, Bool, Option, Some, None, List, [], ◌∷◌, slice_get}
use Rattle.sm_plan_code.specs.declared.limits.TheConstants.{MOST_PLACES}
pub use Rattle.laws_network.specs.Words.{Setup, sizes_of}
pub use Rattle.laws_network.specs.World.{World}
pub use Rattle.laws_network.specs.Fleet.{Fleet, FleetEvent, controller, fleet_comes}
pub use Rattle.laws_network.specs.FleetLaws.{FleetFits, IsFleetOpening, IsFleetReached}
pub use Rattle.laws_network.specs.Reopening.{Reopen, Settlement, Settling, SettlingEvent, records, settling_comes}
pub use Rattle.laws_network.specs.ReopeningLaws.{AllTook, IsSettlingReached, MayReopen, SettlingFits}
pub use Rattle.laws_network.specs.FleetReopening.{FleetCanReopen, settling_of}
pub use Rattle.laws_reopening.specs.Renumbering.{IsFleetInForceAs, IsRenumberedAs, Renumbering}

-- The service at a moment.
pub data Service : Type 0 where
  -- a controller runs plans over a fleet of this configuration
  Runs : (setup : Setup) (fleet : Fleet) → Service
  -- a reopening is under way, which began over this fleet
  Reopens : (setup : Setup) (fleet : Fleet) (settling : Settling) → Service

-- The events that may happen, in any order and any number of times.
pub data ServiceEvent : Type 0 where
  -- something happens to the fleet
  Goes : (event : FleetEvent) → ServiceEvent
  -- a reopening begins over the fleet, with all that was sent as this world has it
  Begins : (world : World) (base servers : ℕ) (lost : ℕ → Bool) → ServiceEvent
  -- something happens while it is under way; another one may replace it
  Meets : (event : SettlingEvent) → ServiceEvent
  -- its settlement is in force, and a controller opens on this fleet, whose servers and shards have new numbers: by
  -- these it is this settlement
  Opens : (numbers : Renumbering) (opening : Settlement) (fleet : Fleet) → ServiceEvent

-- a controller opens on a fleet of this configuration, if something was settled
abbrev pub opened_on : Service → Setup → Fleet → Option Settlement → Service
opened_on p new fleet None = p
opened_on p new fleet (Some s) = Runs new fleet

-- what an event does
abbrev pub service_comes : Service → ServiceEvent → Service
service_comes (Runs setup f) (Goes e) = Runs setup (fleet_comes f e).1
service_comes (Runs setup f) (Begins world base servers lost) = Reopens setup f (records (settling_of f world) (Reopen base servers lost))
service_comes (Reopens setup f x) (Meets e) = Reopens setup f (settling_comes x e).1
service_comes (Reopens setup f x) (Opens n new fleet) = opened_on (Reopens setup f x) new.setup fleet x.reopening.settlement
service_comes p _ = p

-- after a list of events
abbrev pub service_run : List ServiceEvent → Service → Service
service_run [] p = p
service_run (e ∷ es) p = service_run es (service_comes p e)

-- A reopening may begin over a fleet: with a number and servers given up as it may, over a world that has what the
-- fleet's controller has recorded, what the map shows, and all that was sent. There always is such a world.
pub record MayBegin (setup : Setup) (f : Fleet) (world : World) (base : ℕ) (lost : ℕ → Bool) : Type 0 where
  pub over : FleetCanReopen setup f
  pub world_is : over.world ≡ world
  pub may : MayReopen (settling_of f world) base lost

-- A controller may open on a fleet: all have taken the settlement, and the fleet is what comes of it in the
-- controller's own numbers. The permit of a server that is down is the one that it had, or one that was never given and
-- is not among those that will be.
pub record MayOpen (setup : Setup) (before : Fleet) (x : Settling) (n : Renumbering) (new : Settlement) (after : Fleet) : Type 0 where
  pub settlement : Settlement
  pub settled : x.reopening.settlement ≡ Some settlement
  pub took : AllTook x.reopening
  pub renumbered : IsRenumberedAs n settlement new
  pub opens : IsFleetInForceAs x n new after
  pub permits : (v permit : ℕ) → after.start.permits v ≡ Some permit →
      ((j : ℕ) × (slice_get n.servers v ≡ Some j) × (j < (sizes_of setup).servers)
      × ((controller before).permits j ≡ Some permit))
      ⊎ (x.reopening.base + MOST_PLACES < permit)

-- what the controller does is what it may
abbrev pub ServiceFits : Service → ServiceEvent → Type 0
ServiceFits (Runs setup f) (Goes e) = FleetFits setup f e
ServiceFits (Runs setup f) (Begins world base servers lost) = MayBegin setup f world base lost
ServiceFits (Reopens setup f x) (Meets e) = SettlingFits x e
ServiceFits (Reopens setup f x) (Opens n new fleet) = MayOpen setup f x n new fleet
ServiceFits p _ = Unit {0}

-- each of these events is so when it comes
abbrev pub AllServiceFit : List ServiceEvent → Service → Type 0
AllServiceFit [] p = Unit {0}
AllServiceFit (e ∷ es) p = ServiceFits p e × AllServiceFit es (service_comes p e)

-- events lead from an opening to this
pub record IsServiceReached (p : Service) : Type 0 where
  pub setup : Setup
  pub first : Fleet
  pub opening : IsFleetOpening setup first
  pub events : List ServiceEvent
  pub fit : AllServiceFit events (Runs setup first)
  pub state : p ≡ service_run events (Runs setup first)

-- so it is wherever events lead
abbrev pub EachService : (Service → Type 0) → Type 0
EachService P = (p : Service) → IsServiceReached p → P p
