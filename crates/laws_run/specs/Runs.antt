-- Runs of smpland between reopenings: lines come to a session whose journal is open, and its driver has a fleet, to
-- which anything may happen meanwhile. Processes are killed, and others go on.
use Rattle.std.specs.Prelude.{◌≡◌, ℕ, List, [], ◌∷◌, Some, None}
use Rattle.laws_driver.specs.Control.{Command, DriverModel, JournalEntry}
use Rattle.laws_driver.specs.Driven.{Driven, FleetEvent, Goes, IsDrivenOpening, Takes, TurnFits, WritesNothing}
use Rattle.laws_driver.specs.Driven.{after_turn, driver_setup}
use Rattle.smpland_session.specs.Asked.{DoesAsSaid}
use Rattle.smpland_session.specs.Changes.{IsNew, SessionChanges, driver_of}
use Rattle.smpland_session.specs.declared.session.Session.{Session}
use Rattle.laws_session.specs.Replays.{TakesEntries}
use Rattle.laws_run.specs.Truth.{LineIsTrue, SaysCommand}

-- A session, and its driver with the fleet that it controls.
pub record Run : Type 0 where
  pub session : Session
  pub driven : Driven

-- the journal of the driver is open, and no reopening is under way
abbrev pub IsOpenWith : DriverModel → Session → Type 0
IsOpenWith d s = (driver_of s.opened ≡ Some d) × (s.under_way ≡ None)

-- A moment of a run: something happens to the fleet, a line comes, or another process goes on.
pub data Moment : Type 0 where
  Happens : (event : FleetEvent) → Moment
  -- the process is gone, and another one has this session, and this driver
  Recovers : (session : Session) (driver : DriverModel) → Moment
  -- a line comes, which is this command of the driver; the session, its driver and what is written afterwards
  Hears : (line : List ℕ) (command : Command) (session : Session) (driver : DriverModel) (entries : List JournalEntry)
      → Moment

-- what is there after it
abbrev pub after_moment : Run → Moment → Run
after_moment x (Happens e) = record x { driven = after_turn x.driven (Goes e) }
after_moment x (Recovers session driver) = record { session = session; driven = record x.driven { driver = driver } }
after_moment x (Hears line command session driver es) = record { session = session; driven = after_turn x.driven (Takes command driver es) }

-- after a list of moments
abbrev pub after_moments : List Moment → Run → Run
after_moments [] x = x
after_moments (m ∷ ms) x = after_moments ms (after_moment x m)

-- A line changes something, as the contract of the program's session says; it is true, and begins no reopening. Its
-- command writes these entries, each of which tells the truth.
pub record LineFits (x : Run) (line : List ℕ) (command : Command) (session : Session) (driver : DriverModel) (es : List JournalEntry) : Type 0 where
  pub changes : SessionChanges x.session session
  pub said : DoesAsSaid line x.session session
  pub open_with : IsOpenWith driver session
  pub truth : LineIsTrue x.driven line
  pub says : SaysCommand (driver_setup x.driven) line command
  pub writes : TurnFits x.driven (Takes command driver es)

-- A session is recovered: it began with nothing, as the one before did, and has taken the same entries.
pub record IsRecovered (old new : Session) : Type 0 where
  pub entries : List (List ℕ)
  pub first : Session
  pub first_is : IsNew first
  pub took : TakesEntries entries first old
  pub again : Session
  pub again_is : IsNew again
  pub takes : TakesEntries entries again new

-- A moment may come now. (A line that changes nothing leaves all as it is.)
abbrev pub MomentFits : Run → Moment → Type 0
MomentFits x (Happens e) = WritesNothing e
MomentFits x (Recovers session driver) = IsRecovered x.session session × IsOpenWith driver session
MomentFits x (Hears line command session driver es) = LineFits x line command session driver es

-- each of these moments may come when it does
abbrev pub AllMomentsFit : List Moment → Run → Type 0
AllMomentsFit [] x = Unit {0}
AllMomentsFit (m ∷ ms) x = MomentFits x m × AllMomentsFit ms (after_moment x m)

-- it begins: the journal is open, and its driver is the controller of a fleet that opens
pub record IsRunOpening (x : Run) : Type 0 where
  pub open_with : IsOpenWith x.driven.driver x.session
  pub driven : IsDrivenOpening x.driven

-- moments lead from a beginning to this
pub record IsRunReached (x : Run) : Type 0 where
  pub first : Run
  pub opening : IsRunOpening first
  pub moments : List Moment
  pub fit : AllMomentsFit moments first
  pub state : x ≡ after_moments moments first

-- so it is wherever moments lead
abbrev pub EachRun : (Run → Type 0) → Type 0
EachRun P = (x : Run) → IsRunReached x → P x
