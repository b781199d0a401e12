-- A stream of which no call was lost has tried each of its calls once.
use Rattle.sm_protocol.proofs.Below.{◌≡◌, ◌≢◌, ℕ, ◌+◌, ◌⊎◌, true, false, Some, refl, sym, ap, ◌∙◌, inl, inr, subst, arith, List, [], ◌∷◌, Contains, if◌then◌else◌, cases_Bool, Contains-append_left, Contains-push, bit, Setup, StreamId, Instr, Signal, Wait, is_call, PlanModel, Course, stream_at, calls_before, one_more, AllByRecursion}
use Rattle.sm_protocol.proofs.Words.{Event, Played, Passage, Through, LostBefore, LostAfter, State, Progress, fresh, plan_at, progress_of, set_progress, is_begun, logged, Happening, started, happens, run, behind_call, ahead_of_call, tried_more, call_number, IsReached, AllFit, LosesNothing, HasLost, HasNoLost}
use Rattle.sm_protocol.specs.declared.event.Event.TheVariants as event
use Rattle.sm_protocol.specs.declared.event.Played.TheVariants as played
use Rattle.sm_protocol.proofs.Invariant.{IsKept}
use Rattle.sm_protocol.proofs.Cases.{IsBefore, OfSteps, of_happens}
use Rattle.sm_protocol.proofs.Reached.{by_events, same_machine}
use Rattle.sm_protocol.proofs.Numbers.{each_stream, goes_on}
use Rattle.sm_protocol.proofs.Turns.{turns}
use Rattle.sm_protocol.proofs.LogRoom.{begun_parts, plan_before}
use Rattle.sm_protocol.proofs.Whole.{happens_keeps, reached_keeps}

-- ---- tries and calls

-- a stream that has come so far has made its end, or has tried each call that it has behind it once, and no other
abbrev IsUnlostBy : Course → Progress → Type 0
IsUnlostBy s x = (x.done ≡ true) ⊎ (x.tries ≡ calls_before s x.at)

-- the stream at a state has made its end, or has tried each call that it has behind it once, and no other
abbrev pub IsUnlost : State → StreamId → Type 0
IsUnlost w id = IsUnlostBy (stream_at w.sizes (plan_at w id.plan) id.stream) (progress_of w id)

fresh_unlost : (s : Course) → IsUnlostBy s fresh
fresh_unlost s = inr refl

-- over an event each stream that was so still is, or a call of it was lost by the event, of which so much is known
abbrev StaysUnlost : State → Type 0 → State → Type 0
StaysUnlost w L new = (id : StreamId) → IsUnlost w id → IsUnlost new id ⊎ (L × HasLost new id)

-- a stream goes on
moved : (w : State) (id : StreamId) (y : Progress) (X : StreamId → Type 0) →
    (IsUnlost w id → IsUnlostBy (stream_at w.sizes (plan_at w id.plan) id.stream) y ⊎ X id) → (other : StreamId) → IsUnlost w other →
    IsUnlostBy (stream_at w.sizes (plan_at w other.plan) other.stream) (set_progress w id y other.plan other.stream) ⊎ X other
moved w id y X own = each_stream (goes_on w id y) (λ a z. IsUnlost w a → IsUnlostBy (stream_at w.sizes (plan_at w a.plan) a.stream) z ⊎ X a) own (λ a n u. inl u)

-- behind an instruction
one_behind : (w : State) (id : StreamId) (i : Instr) (n : ℕ) → IsBefore w id (Some i) → bit (is_call i) ≡ n → (y : Progress) → y.at ≡ (progress_of w id).at + 1 → y.tries ≡ (progress_of w id).tries + n →
    IsUnlost w id → IsUnlostBy (stream_at w.sizes (plan_at w id.plan) id.stream) y
one_behind w id i n b c y at tries (inl d) = absurd (let r = b.running in cc)
one_behind w id i n b c y at tries (inr t) =
    let s = stream_at w.sizes (plan_at w id.plan) id.stream in
    let more : calls_before s ((progress_of w id).at + 1) ≡ calls_before s (progress_of w id).at + bit (is_call i) = one_more s (progress_of w id).at i b.next_is in
    let now : calls_before s y.at ≡ calls_before s ((progress_of w id).at + 1) = ap (calls_before s) at in
    inr (omega arith)

-- the log's new line is found in it
last_line : (w : State) (x : Event) (a : Played) → Contains (logged w x a) (record { event = x; answer = a })
last_line w x a = Contains-push w.log (record { event = x; answer = a })

unlost_by_steps : (w : State) (id : StreamId) (passage : Passage) (L : Type 0) → (passage ≢ Through → L) → OfSteps w id passage (λ o. StaysUnlost w L o.1)
unlost_by_steps w id passage L loses = record {
  idle = λ answer other u. inl u;
  refused = λ i x why t e other u. inl u;
  at_end = λ b. moved w id (record now { done = true }) _ (λ u. inl (inl refl));
  publishes = λ i s server b c. moved w id (record now { at = now.at + 1 }) _ (λ u. inl (one_behind w id i 0 b (ap bit c) (record now { at = now.at + 1 }) refl (omega arith) u));
  posts = λ q b. moved w id (record now { at = now.at + 1 }) _ (λ u. inl (one_behind w id (Signal q) 0 b refl (record now { at = now.at + 1 }) refl (omega arith) u));
  awaits = λ q b e. moved w id (record now { at = now.at + 1 }) _ (λ u. inl (one_behind w id (Wait q) 0 b refl (record now { at = now.at + 1 }) refl (omega arith) u));
  lost = λ i x t p. moved w id (record (tried_more now false) { pending = call_number w now }) _
      (λ u. inr (loses (λ q. let f : Through ≡ LostBefore = sym q ∙ p in cc), (false, last_line w (event.Lose id false) played.Lost)));
  through = λ i x effect t a p. moved w id (behind_call now effect.fresh) _ (λ u. inl (one_behind w id i 1 t.before (ap bit t.call) (behind_call now effect.fresh) refl refl u));
  unanswered = λ i x effect t a p. moved w id (ahead_of_call w now effect.fresh) _
      (λ u. inr (loses (λ q. let f : Through ≡ LostAfter = sym q ∙ p in cc), (true, last_line w (event.Lose id true) played.Lost)));
}
  where
    now : Progress
    now = progress_of w id

-- a plan starts
started_unlost : (w : State) (v : IsKept w) (plan : PlanModel) (id : StreamId) → IsUnlost w id → IsUnlost (started w plan) id
started_unlost w v plan id u = elim (cases_Bool (is_begun w id)) [
  | inl b ↦ subst (λ pl. IsUnlostBy (stream_at w.sizes pl id.stream) (progress_of w id)) (sym (plan_before w plan id.plan (begun_parts w id b).0)) u
  | inr b ↦ subst (IsUnlostBy (stream_at w.sizes (plan_at (started w plan) id.plan) id.stream)) (sym (v.unbegun id b)) (fresh_unlost (stream_at w.sizes (plan_at (started w plan) id.plan) id.stream))
]

pub stays_unlost : (w : State) (v : IsKept w) (e : Happening) → StaysUnlost w (LosesNothing e → ⊥) (happens w e).1
stays_unlost w v e = of_happens w (λ e o. StaysUnlost w (LosesNothing e → ⊥) o.1) (record {
  idle = λ e answer n other u. inl u;
  steps = λ id. unlost_by_steps w id Through _ (λ n. absurd (n refl));
  loses = λ id after. unlost_by_steps w id (if after then LostAfter else LostBefore) _ (λ n q. q);
  refills = λ id more n. moved w id (record (progress_of w id) { refills = (progress_of w id).refills + more }) _ (λ u. inl u);
  arrives = λ s a n other u. inl u;
  passes_on = λ t o n other u. inl u;
  approves = λ a n other u. inl u;
  restarts = λ a n other u. inl u;
  starts = λ plan h f g other u. inl (started_unlost w v plan other u);
}) e

-- ---- lists of events

-- a lost call stays in the log
lost_stays : (w : State) (e : Happening) (id : StreamId) → HasLost w id → HasLost (happens w e).1 id
lost_stays w e id lost = elim (turns w e) [
  | inl same ↦ subst (λ (x : State). HasLost x id) (sym same) lost
  | inr (inl line) ↦ (lost.0, subst (λ log. Contains log (record { event = event.Lose id lost.0; answer = played.Lost })) (sym line.log) (Contains-append_left w.log _ _ lost.1))
  | inr (inr start) ↦ subst (λ (x : State). HasLost x id) (sym start.state) lost
]

-- of each stream no call was lost, or the log has one
pub lost_or_not : (setup : Setup) (w : State) → IsReached setup w → (id : StreamId) → IsUnlost w id ⊎ HasLost w id
lost_or_not setup w reached = by_events setup (λ u. (id : StreamId) → IsUnlost u id ⊎ HasLost u id)
    (λ p room o id. inl (inr refl))
    (λ u e at f h id. elim (h id) [
      | inr lost ↦ inr (lost_stays u e id lost)
      | inl not ↦ elim (stays_unlost u (reached_keeps setup u at).0 e id not) [ inl n ↦ inl n | inr l ↦ inr l.1 ]
    ])
    w reached

-- where the log has no lost call of an unfinished stream, each stream has tried its calls once
pub all_unlost : (setup : Setup) (w : State) → IsReached setup w → HasNoLost w → (id : StreamId) → IsUnlost w id
all_unlost setup w reached none id = elim (cases_Bool (is_begun w id)) [
  | inr b ↦ subst (IsUnlostBy (stream_at w.sizes (plan_at w id.plan) id.stream)) (sym ((reached_keeps setup w reached).0.unbegun id b)) (fresh_unlost (stream_at w.sizes (plan_at w id.plan) id.stream))
  | inl b ↦ elim (cases_Bool (progress_of w id).done) [
    | inl d ↦ inl d
    | inr d ↦ elim (lost_or_not setup w reached id) [ inl u ↦ u | inr lost ↦ absurd (none id b d lost) ]
  ]
]

-- and so it is after events that lose nothing
pub run_unlost : (w : State) (v : IsKept w) (es : List Happening) → AllFit w.sizes es → AllByRecursion LosesNothing es → ((id : StreamId) → IsUnlost w id) → (id : StreamId) → IsUnlost (run es w) id
run_unlost w v [] fit losses all = all
run_unlost w v (e ∷ es) fit losses all =
    run_unlost (happens w e).1 (happens_keeps w v e fit.0).1 es (subst (λ c. AllFit c es) (sym (same_machine w e).sizes) fit.1) losses.1
    (λ id. elim (stays_unlost w v e id (all id)) [ inl u ↦ u | inr l ↦ absurd (l.0 losses.0) ])
