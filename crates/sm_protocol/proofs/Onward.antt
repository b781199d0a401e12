-- No call is refused, the state is safe, and of each plan that isn't done some stream can step.
use Rattle.sm_protocol.proofs.Below.{◌≡◌, ℕ, ◌+◌, ◌<◌, ◌≤◌, false, refl, length, inl, inr, subst, sym, arith, bit, StreamId, is_call, stream_at, calls_before}
use Rattle.sm_protocol.proofs.Words.{State, plan_at, stream_id, stream_count, stream_parts, run, SomeCanStep, AllFit, Headline, WithLosses, unhalted}
use Rattle.sm_protocol.proofs.Reached.{reached_run}
use Rattle.sm_protocol.proofs.Invariant.{IsKept}
use Rattle.sm_protocol.proofs.Courses.{good, next_turn}
use Rattle.sm_protocol.proofs.LogRoom.{has_room}
use Rattle.sm_protocol.proofs.Whole.{happens_keeps, reached_keeps, run_served, unhalted_keeps}
use Rattle.sm_protocol.proofs.Safety.{is_safe}
use Rattle.sm_protocol.proofs.Progress.{IsSpentAt, some_onward, some_can_step_or_spent}
use Rattle.sm_protocol.proofs.Losses.{IsUnlost, all_unlost, run_unlost}

-- where calls may be lost
pub with_losses : WithLosses
with_losses setup w reached =
    let v = (reached_keeps setup w reached).0 in
    ((λ e fits. (happens_keeps (unhalted w) (unhalted_keeps w v) e fits).0), is_safe w v (has_room setup w reached), some_can_step_or_spent w v)

-- ---- where no call is lost

-- a stream that has tried its calls once each hasn't spent its allowance
unspent : (w : State) (v : IsKept w) (k i : ℕ) → k < length w.plans → i < stream_count w k → (w.progress k i).done ≡ false → IsUnlost w (stream_id k i) → IsSpentAt w (stream_id k i) → ⊥
unspent w v k i l m d (inl e) s = cc
unspent w v k i l m d (inr t) s =
    let now = w.progress k i in
    let plan = plan_at w k in
    let turn = next_turn w.sizes plan i now.at s.instr (good w.sizes w.place plan (w.progress k) (w.marks k) (v.plans k l) i m) s.here in
    let calls : calls_before (stream_at w.sizes plan i) (now.at + 1) ≡ calls_before (stream_at w.sizes plan i) now.at + bit (is_call s.instr) = turn.calls in
    let budget : calls_before (stream_at w.sizes plan i) (now.at + 1) ≤ (stream_parts w (stream_id k i)).budget = turn.budget in
    let one : bit (is_call s.instr) ≡ 1 = rw s.call refl in
    let all : now.tries ≡ (stream_parts w (stream_id k i)).budget + (stream_parts w (stream_id k i)).retries + now.refills = s.all in
    omega arith

some_can_step : (w : State) → IsKept w → ((id : StreamId) → IsUnlost w id) → SomeCanStep w
some_can_step w v all k l unfinished =
    let o = some_onward w v k l unfinished in (
      o.i,
      o.stream,
      o.unended,
      elim o.goes [ inl c ↦ c | inr s ↦ absurd (unspent w v k o.i l o.stream o.unended (all (stream_id k o.i)) s) ],
    )

-- where no call is lost, none is refused, the state is safe, and of each unfinished plan some stream can step
pub headline : Headline
headline setup w es reached none fit losses =
    let kept = reached_keeps setup w reached in
    let fits : AllFit w.sizes es = subst (λ c. AllFit c es) (sym kept.1) fit in
    let after = reached_run setup es w reached fits in
    let v = (reached_keeps setup (run es w) after).0 in
    let onward = with_losses setup (run es w) after in (
      run_served es w kept.0 fits,
      onward.0,
      onward.1,
      some_can_step (run es w) v (run_unlost w kept.0 es fits losses (all_unlost setup w reached none)),
    )
