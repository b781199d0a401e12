-- The facts that hold of the scenes that a document's events lead to, and so of every line that `play` prints of them.
use Rattle.std.specs.Prelude.{◌≡◌, ℕ, Option, List, [], ◌∷◌}
use Rattle.std.specs.List.{AllByRecursion, filter_map}
use Rattle.sm_placement.specs.Setup.{Setup, sizes_of}
use Rattle.sm_placement.specs.Place.{Place}
use Rattle.sm_plan_code.specs.Plan.{PlanModel}
use Rattle.sm_verifier.specs.Plan.{IsCheckedPlan}
use Rattle.sm_protocol.specs.declared.event.Event.{Event}
use Rattle.sm_protocol.specs.Happens.{Happening, run}
use Rattle.sm_protocol.specs.Laws.{IsOpening, IsSafeRun, NamesKnown}
use Rattle.sm_report.specs.Playing.{Scene, asked_by, event_turn, opened_scene, scene_after}

-- what each event of a list asks for, when its turn comes
abbrev pub all_asked : List Event → Scene → List (Option Happening)
all_asked [] x = []
all_asked (e ∷ es) x = asked_by x e ∷ all_asked es (event_turn x e).1

-- what happens by the events of a list that speak of something
abbrev pub happenings : List Event → Scene → List Happening
happenings es x = filter_map (λ o. o) (all_asked es x)

-- The events of a list lead to the state of the run of what happens by them, and that run is safe.
pub record IsSafeScene (setup : Setup) (es : List Event) (x : Scene) : Type 0 where
  pub state : (scene_after es x).state ≡ run (happenings es x) x.state
  pub safe : IsSafeRun setup (happenings es x) x.state

-- From the opening of a document's placement, whose log has room, with plans that were checked: so it is after each
-- list of events that name known shards and servers. Each front of the list is such a list too: so the laws of the
-- protocol hold after each event.
abbrev pub ScenesAreSafe : Type 0
ScenesAreSafe = (setup : Setup) (p : Place) (log : ℕ) (plans : List PlanModel) (es : List Event)
    → IsOpening setup p log →
    AllByRecursion (IsCheckedPlan (sizes_of setup)) plans → AllByRecursion (NamesKnown (sizes_of setup)) es →
    IsSafeScene setup es (opened_scene (sizes_of setup) p log plans)
