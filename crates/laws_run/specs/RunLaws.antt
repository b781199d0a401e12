-- The laws of runs, behind their premises.
use Rattle.std.specs.Prelude.{◌≡◌, ◌<◌, ℕ, true, Some, None, List, [], ◌∷◌, length}
use Rattle.laws_network.specs.Fleet.{Fleet, Forget, controller}
use Rattle.laws_network.specs.FleetLaws.{HasAskedUnder}
use Rattle.laws_reopening.specs.FloorRules.{AreLostDown, HasFloors}
use Rattle.laws_driver.specs.Control.{Command, DriverModel, JournalEntry}
use Rattle.laws_driver.specs.Driven.{driver_setup}
use Rattle.laws_driver.specs.DrivenLaws.{IsDrivenSafely, IsFleetDriven}
use Rattle.smpland_session.specs.Asked.{DoesAsSaid}
use Rattle.smpland_session.specs.Changes.{SessionChanges}
use Rattle.smpland_session.specs.declared.session.Session.{Session}
use Rattle.laws_run.specs.Runs.{AllMomentsFit, Happens, LineFits, IsOpenWith, IsRunReached, Moment, Run, after_moment}
use Rattle.laws_run.specs.Runs.{after_moments}
use Rattle.laws_run.specs.Truth.{LineIsTrue}

-- A line that changes something is a command of the driver, whose entries tell the truth if the line does: the run goes
-- on by it.
abbrev pub LinesGoOn : Run → Type 0
LinesGoOn x = (line : List ℕ) (session : Session) → SessionChanges x.session session
    → DoesAsSaid line x.session session →
    session.under_way ≡ None → LineIsTrue x.driven line →
    (command : Command) × (driver : DriverModel) × (es : List JournalEntry) × LineFits x line command session driver es

-- The session's driver is the controller of a fleet that events lead to, of which all laws of the fleet hold.
pub record IsRunSafe (x : Run) : Type 0 where
  pub open_with : IsOpenWith x.driven.driver x.session
  pub driven : IsFleetDriven x.driven
  pub safe : IsDrivenSafely x.driven

-- ---- floors

-- a server loses its slots only while it is recorded as down
abbrev pub LosesDown : Run → Moment → Type 0
LosesDown x (Happens (Forget v)) = (controller x.driven.fleet).w.place.down v ≡ true
LosesDown x _ = Unit {0}

-- at each of these moments
abbrev pub AllLoseDown : List Moment → Run → Type 0
AllLoseDown [] x = Unit {0}
AllLoseDown (m ∷ ms) x = LosesDown x m × AllLoseDown ms (after_moment x m)

-- If only servers that are down have lost their slots, and servers lose them only then, no shard has fewer replicas at
-- servers that are up and have their slots than its floor.
abbrev pub FloorsHold : Run → Type 0
FloorsHold x = AreLostDown x.driven.fleet → (ms : List Moment) → AllMomentsFit ms x → AllLoseDown ms x →
    AreLostDown (after_moments ms x).driven.fleet × HasFloors (after_moments ms x).driven.fleet

-- ---- beginnings

-- the server has lost its slots, and has asked for them under its nonce
abbrev pub AsksForSlots : Fleet → ℕ → Type 0
AsksForSlots f v = (nonce : ℕ) × ((f.servers v).base.nonce ≡ Some nonce) × HasAskedUnder f.asks v nonce

-- A line that opens a journal leads a session to the beginning of a run, as users begin it: every server is Unknown,
-- and asks for its slots.
abbrev pub RunsBegin : Type 0
RunsBegin = (line : List ℕ) (old new : Session) → old.opened ≡ None → old.under_way ≡ None → new.under_way ≡ None →
    SessionChanges old new → DoesAsSaid line old new →
    (x : Run) × IsRunReached x × (x.session ≡ new)
    × ((v : ℕ) → v < length (driver_setup x.driven).servers → AsksForSlots x.driven.fleet v)
