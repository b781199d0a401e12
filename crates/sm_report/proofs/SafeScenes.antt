-- The scenes that a document's events lead to are those of a run of the protocol, which is safe.
use Rattle.std.proofs.Common.{◌≡◌, ◌∷◌, [], ℕ, zero, suc, List, Option, Some, None, map, refl, ap, ◌∙◌, subst}
use Rattle.std.specs.Prelude.{option_and_then, option_map, slice_index_or}
use Rattle.std.specs.List.{AllByRecursion, filter_map}
use Rattle.sm_placement.specs.Setup.{Sizes, sizes_of}
use Rattle.sm_plan_code.specs.Plan.{PlanModel}
use Rattle.sm_verifier.specs.Plan.{IsCheckedPlan}
use Rattle.sm_protocol.specs.declared.event.Event.{Event}
use Rattle.sm_protocol.specs.declared.event.Event.TheVariants as event
use Rattle.sm_protocol.specs.declared.event.Played.{Played}
use Rattle.sm_protocol.specs.declared.event.Played.TheVariants as played
use Rattle.sm_protocol.specs.State.{State}
use Rattle.sm_protocol.specs.Steps.{Outcome, Refused, Answered}
use Rattle.sm_protocol.specs.Ticket.{Ticket, passes}
use Rattle.sm_protocol.specs.Happens.{Happening, Step, Lose, Refill, Arrive, PassOn, Approve, Done, Begin, happens, run}
use Rattle.sm_protocol.specs.Log.{named}
use Rattle.sm_protocol.specs.Laws.{AllFit, FitsConfig, NamesKnown, RunsAreSafe}
use Rattle.sm_protocol.proofs.Reached.{reached_by}
use Rattle.sm_machine.proofs.FirstPlaces.{left_there}
use Rattle.sm_report.specs.Playing.{Scene, after_event, after_start, asked_by, event_named, event_turn, event_turn_by, opened_scene, scene_after}
use Rattle.sm_report.specs.SafeScenes.{ScenesAreSafe, all_asked, happenings}
use Rattle.sm_report.proofs.EventTurns.{named_known}

-- ---- the run

-- a start changes no state
start_state : (x : Scene) (place : ℕ) (answer : Played) → (after_start x place answer).state ≡ x.state
start_state x place (played.Begun number) = refl
start_state x place _ = refl

after_state : (x : Scene) (e : Event) (o : Outcome) → (after_event x e o).state ≡ x.state
after_state x (event.Begin place) (Answered answer) = start_state x place answer
after_state x (event.Begin place) Refused = refl
after_state x _ o = refl

turn_runs : (x : Scene) (e : Event) (es : List Event) (o : Option Happening) →
    ((y : Scene) → (scene_after es y).state ≡ run (happenings es y) y.state) →
    (scene_after es (event_turn_by x e o).1).state ≡ run (filter_map (λ h. h) (o ∷ all_asked es (event_turn_by x e o).1)) x.state
turn_runs x e es None rest = rest x
turn_runs x e es (Some h) rest =
    let y : Scene = after_event (record x { state = (happens x.state h).1 }) e (happens x.state h).0 in
    rest y ∙ ap (run (happenings es y)) (after_state (record x { state = (happens x.state h).1 }) e (happens x.state h).0)

scenes_run : (es : List Event) (x : Scene) → (scene_after es x).state ≡ run (happenings es x) x.state
scenes_run [] x = refl
scenes_run (e ∷ es) x = turn_runs x e es (asked_by x e) (scenes_run es)

-- ---- what happens fits

-- each plan that waits was checked
abbrev WaitChecked : Sizes → Scene → Type 0
WaitChecked c x = (place : ℕ) (plan : PlanModel) → slice_index_or x.waiting place None ≡ Some plan → IsCheckedPlan c plan

name_fits : (w : State) (c : Sizes) (e : Event) (h : Happening) → NamesKnown c e → named w e ≡ Some h → FitsConfig c h
name_fits w c (event.Step id) h k is = subst (FitsConfig c) (let same : Step id ≡ h = cc in same) tt
name_fits w c (event.Lose id after) h k is = subst (FitsConfig c) (let same : Lose id after ≡ h = cc in same) tt
name_fits w c (event.Refill id more) h k is = subst (FitsConfig c) (let same : Refill id more ≡ h = cc in same) k
name_fits w c (event.Arrive s v) h k is = subst (FitsConfig c) (let same : Arrive s v ≡ h = cc in same) k
name_fits w c (event.Approve v) h k is = subst (FitsConfig c) (let same : Approve v ≡ h = cc in same) k
name_fits w c (event.Done v) h k is = subst (FitsConfig c) (let same : Done v ≡ h = cc in same) k
name_fits w c (event.Begin place) h k is = absurd (cc)
name_fits w c (event.PassOn place) h k is = by_pass (slice_index_or (passes w.log) place None) is
  where
    by_pass : (o : Option Ticket) → option_map PassOn o ≡ Some h → FitsConfig c h
    by_pass None is = absurd (cc)
    by_pass (Some t) is = subst (FitsConfig c) (let same : PassOn t ≡ h = cc in same) tt

event_fits : (w : State) (c : Sizes) (o : Option Event) (h : Happening) → ((e : Event) → o ≡ Some e → NamesKnown c e) → option_and_then (named w) o ≡ Some h → FitsConfig c h
event_fits w c None h k is = absurd (cc)
event_fits w c (Some e) h k is = name_fits w c e h (k e refl) is

asked_fits : (c : Sizes) (x : Scene) (e : Event) (h : Happening) → WaitChecked c x → NamesKnown c e → asked_by x e ≡ Some h → FitsConfig c h
asked_fits c x (event.Begin place) h all k is = by_plan (slice_index_or x.waiting place None) refl is
  where
    by_plan : (o : Option PlanModel) → slice_index_or x.waiting place None ≡ o → option_map Begin o ≡ Some h → FitsConfig c h
    by_plan None at is = absurd (cc)
    by_plan (Some plan) at is = subst (FitsConfig c) (let same : Begin plan ≡ h = cc in same) (all place plan at)
asked_fits c x e h all k is = event_fits x.state c (event_named x e) h (λ ev named. named_known x c e ev k named) is

-- plans that wait stay checked
start_checked : (c : Sizes) (x : Scene) (place : ℕ) (answer : Played) → WaitChecked c x → WaitChecked c (after_start x place answer)
start_checked c x place (played.Begun number) all = λ at plan e. all at plan (left_there x.waiting place at plan e)
start_checked c x place _ all = all

after_checked : (c : Sizes) (x : Scene) (e : Event) (o : Outcome) → WaitChecked c x → WaitChecked c (after_event x e o)
after_checked c x (event.Begin place) (Answered answer) all = start_checked c x place answer all
after_checked c x (event.Begin place) Refused all = all
after_checked c x _ o all = all

turn_checked : (c : Sizes) (x : Scene) (e : Event) (o : Option Happening) → WaitChecked c x → WaitChecked c (event_turn_by x e o).1
turn_checked c x e None all = all
turn_checked c x e (Some h) all = after_checked c (record x { state = (happens x.state h).1 }) e (happens x.state h).0 all

all_so : (c : Sizes) (o : Option Happening) (hs : List (Option Happening)) → ((h : Happening) → o ≡ Some h → FitsConfig c h) → AllFit c (filter_map (λ x. x) hs) → AllFit c (filter_map (λ x. x) (o ∷ hs))
all_so c None hs own rest = rest
all_so c (Some h) hs own rest = (own h refl, rest)

all_fit : (c : Sizes) (es : List Event) (x : Scene) → WaitChecked c x → AllByRecursion (NamesKnown c) es → AllFit c (happenings es x)
all_fit c [] x all k = tt
all_fit c (e ∷ es) x all k =
    all_so c (asked_by x e) (all_asked es (event_turn x e).1) (λ h is. asked_fits c x e h all k.0 is) (all_fit c es (event_turn x e).1 (turn_checked c x e (asked_by x e) all) k.1)

-- ---- the law

plans_wait : (c : Sizes) (plans : List PlanModel) → AllByRecursion (IsCheckedPlan c) plans → (place : ℕ) (plan : PlanModel) → slice_index_or (map (λ p. Some p) plans) place None ≡ Some plan → IsCheckedPlan c plan
plans_wait c [] all place plan e = absurd (cc)
plans_wait c (p ∷ ps) all zero plan e = subst (IsCheckedPlan c) (let same : p ≡ plan = cc in same) all.0
plans_wait c (p ∷ ps) all (suc place) plan e = plans_wait c ps all.1 place plan e

-- the events of a document lead to the scenes of a safe run
pub scenes_are_safe : RunsAreSafe → ScenesAreSafe
scenes_are_safe law setup p log plans es o checked known =
    let x = opened_scene (sizes_of setup) p log plans in
    record {
      state = scenes_run es x;
      safe = law setup x.state (happenings es x) (reached_by setup p log [] o tt) (all_fit (sizes_of setup) es x (plans_wait (sizes_of setup) plans checked) known);
    }
