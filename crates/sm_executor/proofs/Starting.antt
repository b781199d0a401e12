-- A start of a plan: the words stay tied, the books stay as they are, and there are runners for its streams.
use Rattle.std.proofs.Common.{◌≡◌, ◌≤◌, ◌<◌, ◌+◌, ◌*◌, ◌++◌, ◌∷◌, [], ◌∙◌, ℕ, zero, suc, Bool, true, false, Option, Some, None, List, length, map, refl, sym, ap, subst, arith}
use Rattle.std.proofs.lemmas.List.{append_assoc, length-map}
use Rattle.std.specs.Prelude.{IfOk, Result, Ok, Err, slice_index_or, nat_lt, if◌then◌else◌}
use Rattle.sm_reservation.specs.declared.stream_id.StreamId.{StreamId}
use Rattle.sm_plan_code.specs.Plan.{PlanModel}
use Rattle.sm_verifier.specs.declared.admission.Holding.{Holding}
use Rattle.sm_verifier.specs.FirstHolding.{first_holding}
use Rattle.sm_map.specs.Models.{WordsModel, PublisherModel}
use Rattle.sm_protocol.specs.declared.event.BeginFault.TheVariants as fault
use Rattle.sm_protocol.specs.declared.event.Played.TheVariants as played
use Rattle.sm_protocol.specs.State.{State, Start, stream_id, free_places, places_of, pool}
use Rattle.sm_protocol.specs.Steps.{Answered, unchanged}
use Rattle.sm_protocol.specs.Happens.{Begin, happens, begun, has_all_plans, started}
use Rattle.sm_protocol.proofs.LogRoom.{count_started}
use Rattle.sm_machine.specs.Starts.{AreTokens}
use Rattle.sm_executor.specs.Counting.{IsBooked}
use Rattle.sm_executor.specs.Tied.{IsPublished}
use Rattle.sm_executor.specs.Views.{RunnerModel, running, AreRunners}
use Rattle.sm_executor.proofs.Keeps.{IsKept, tied_quiet, counted_same}

by_tests : (w : State) (plan : PlanModel) (n : ℕ) (a b : Bool) →
    (if a then unchanged w (played.NotBegun fault.LogFull) else if b then unchanged w (played.NotBegun fault.TooManyPlans) else (Answered (played.Begun (length w.plans)), started w plan)).0 ≡ Answered (played.Begun n) →
    (if a then unchanged w (played.NotBegun fault.LogFull) else if b then unchanged w (played.NotBegun fault.TooManyPlans) else (Answered (played.Begun (length w.plans)), started w plan)).1 ≡ started w plan
by_tests w plan n true b e = absurd (cc)
by_tests w plan n false true e = absurd (cc)
by_tests w plan n false false e = refl

by_holding : (w : State) (plan : PlanModel) (n : ℕ) (o : Option Holding) → (begun w plan o).0 ≡ Answered (played.Begun n) → (begun w plan o).1 ≡ started w plan
by_holding w plan n None e = by_tests w plan n (nat_lt (free_places w) (places_of plan)) (has_all_plans w) e
by_holding w plan n (Some why) e = absurd (cc)

-- where a plan begins, it is behind the others, and nothing else has changed
pub begun_is : (w : State) (plan : PlanModel) (n : ℕ) → (happens w (Begin plan)).0 ≡ Answered (played.Begun n) → (happens w (Begin plan)).1 ≡ started w plan
begun_is w plan n e = by_holding w plan n (first_holding w.sizes w.place (pool w) plan) e

-- a start leaves the words tied, and the books as they are
pub started_kept : (words : WordsModel) (opened old new : State) (p : PublisherModel) (a b c : ℕ) (plan : PlanModel) → new ≡ started old plan → IsPublished words opened old p → IsBooked opened old a b c → IsKept words opened new p a b c
started_kept words opened old new p a b c plan e t k = record {
  tied = tied_quiet words opened old new p (record { sizes = ap (λ (w : State). w.sizes) e; entries = ap (λ (w : State). w.entries) e; listed = ap (λ (w : State). w.place.listed) e; version = ap (λ (w : State). w.place.version) e }) t;
  counted = counted_same opened old new a b c (ap (λ (w : State). w.log) e) k;
}

-- there are 64 runners at most for each plan
pub few_runners : (old new : State) (plan : PlanModel) (runners more : ℕ) → new ≡ started old plan → more ≤ 64 → runners ≤ 64 * length old.plans → runners + more ≤ 64 * length new.plans
few_runners old new plan runners more e few l =
    let a : length new.plans ≡ suc (length old.plans) = ap (λ (w : State). length w.plans) e ∙ count_started old plan in
    subst (λ n. runners + more ≤ 64 * n) (sym a) (omega arith)

there : (ts : List StreamId) (i : ℕ) (d : RunnerModel) (e : StreamId) → i < length ts → slice_index_or (map (λ t. running t 0) ts) i d ≡ running (slice_index_or ts i e) 0
there [] i d e l = absurd (omega arith)
there (t ∷ ts) zero d e l = refl
there (t ∷ ts) (suc i) d e l = there ts i d e (omega arith)

-- runners made of the tokens of a plan's first n streams are theirs, with no step recorded
pub runners_are : (plan n : ℕ) (ts : List StreamId) (rs : List RunnerModel) → AreTokens plan n ts → rs ≡ map (λ t. running t 0) ts → AreRunners plan n rs
runners_are plan n ts rs a e = record {
  count = ap length e ∙ length-map ts (λ t. running t 0) ∙ a.count;
  each = λ i d l. ap (λ (xs : List RunnerModel). slice_index_or xs i d) e ∙ there ts i d (stream_id plan i) (let c = a.count in omega arith) ∙ ap (λ t. running t 0) (a.each i (stream_id plan i) l);
}

-- where P leads to Q for each value, it does so for the value of a result that is Ok
pub if_ok : {A B : Type 0} (P Q : A → Type 0) (r : Result A B) → ((a : A) → P a → Q a) → IfOk r P → IfOk r Q
if_ok P Q (Ok a) f p = f a p
if_ok P Q (Err e) f p = tt
