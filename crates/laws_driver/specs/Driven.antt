-- A driver and its fleet over a network: what may happen to them, in any order and any number of times.
use Rattle.std.specs.Prelude.{◌≡◌, ◌++◌, List, [], ◌∷◌}
pub use Rattle.std.specs.List.{AllByRecursion}
pub use Rattle.sm_placement.specs.Setup.{Setup}
pub use Rattle.laws_network.specs.Fleet.{End, Fleet, FleetEvent, HearAsk, HearOwner, HearServer, Make, Open, controller}
pub use Rattle.laws_network.specs.Fleet.{fleet_comes}
pub use Rattle.laws_network.specs.FleetLaws.{HasAskedUnder, IsFleetOpening, IsFleetReached}
pub use Rattle.laws_network.specs.FleetReopening.{IsOneOf}
pub use Rattle.laws_driver.specs.Control.{Answered, Command, DriverModel, IsCallable, IsControllerOf, JournalEntry}
pub use Rattle.laws_driver.specs.Control.{Restored, Stored, Writes}

-- A driver, and the fleet that it is the controller of.
pub record Driven : Type 0 where
  pub driver : DriverModel
  pub fleet : Fleet

-- A turn: something happens to the fleet, or the driver takes a command.
pub data Turn : Type 0 where
  -- something happens to the fleet, and its controller writes nothing
  Goes : (event : FleetEvent) → Turn
  -- the driver takes a command and is this one then; these entries are written
  Takes : (command : Command) (driver : DriverModel) (entries : List JournalEntry) → Turn

-- the fleet whose journal has these entries more; the rest is as it was
abbrev pub with_entries : Fleet → List JournalEntry → Fleet
with_entries f es = record f { journal = es ++ f.journal }

-- what a turn does
abbrev pub after_turn : Driven → Turn → Driven
after_turn x (Goes e) = record x { fleet = (fleet_comes x.fleet e).1 }
after_turn x (Takes command driver es) = record { driver = driver; fleet = with_entries x.fleet es }

-- after a list of turns
abbrev pub after_turns : List Turn → Driven → Driven
after_turns [] x = x
after_turns (t ∷ ts) x = after_turns ts (after_turn x t)

-- the controller writes nothing by this event
abbrev pub WritesNothing : FleetEvent → Type 0
WritesNothing (Make e) = ⊥
WritesNothing (End v permit) = ⊥
WritesNothing (Open room) = ⊥
WritesNothing (HearServer k) = ⊥
WritesNothing (HearOwner k) = ⊥
WritesNothing (HearAsk k) = ⊥
WritesNothing _ = Unit {0}

-- an entry tells the truth: the answer was given, or the server has asked under this nonce
abbrev pub TellsTruth : Fleet → JournalEntry → Type 0
TellsTruth f (Answered o) = IsOneOf f.answers o
TellsTruth f (Stored p) = IsOneOf f.stored p
TellsTruth f (Restored v nonce) = HasAskedUnder f.asks v nonce
TellsTruth f _ = Unit {0}

-- Commands are given as they have to be, and only after what they tell has happened.
abbrev pub TurnFits : Driven → Turn → Type 0
TurnFits x (Goes e) = WritesNothing e
TurnFits x (Takes command driver es) = IsCallable x.driver command × Writes command x.driver driver es
    × AllByRecursion (TellsTruth x.fleet) es

-- each of these turns is so when it comes
abbrev pub AllTurnsFit : List Turn → Driven → Type 0
AllTurnsFit [] x = Unit {0}
AllTurnsFit (t ∷ ts) x = TurnFits x t × AllTurnsFit ts (after_turn x t)

-- the driver's configuration
abbrev pub driver_setup : Driven → Setup
driver_setup x = x.driver.machine.placement.setup

-- They open together: the fleet opens, and the driver is its controller.
pub record IsDrivenOpening (x : Driven) : Type 0 where
  pub fleet : IsFleetOpening (driver_setup x) x.fleet
  pub control : IsControllerOf x.driver x.fleet.start

-- turns lead from an opening to this
pub record IsDrivenReached (x : Driven) : Type 0 where
  pub first : Driven
  pub opening : IsDrivenOpening first
  pub turns : List Turn
  pub fit : AllTurnsFit turns first
  pub state : x ≡ after_turns turns first

-- so it is wherever turns lead
abbrev pub EachDriven : (Driven → Type 0) → Type 0
EachDriven P = (x : Driven) → IsDrivenReached x → P x
