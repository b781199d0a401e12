-- The answers to steps: never that a begun stream is unknown, and without lost calls never that an allowance is spent.
use Rattle.sm_protocol.proofs.Below.{◌≡◌, ◌≢◌, ◌≤◌, ◌+◌, Bool, true, false, not, Option, Some, None, Result, Ok, Err, refl, sym, ap, subst, inl, inr, arith, and_parts, eqb-true, not-true, cases_Bool, if◌then◌else◌, ◌==◌, bit, CallEffect, Refusal, Instr, PrepareAdd, PrepareDrop, Add, Drop, Change, Publish, Unlist, Signal, Wait, ServerCall, StreamId, is_call, called_numbered, stream_at, calls_before, Course, IsGood}
use Rattle.sm_protocol.proofs.Words.{State, Passage, Through, LostBefore, LostAfter, Outcome, Answered, run, step, made, call_tried, call_to_make, tried, unchanged, is_begun, next_instruction, progress_of, stream_parts, plan_at, allowance, AllFit, HasSpent, unhalted}
use Rattle.sm_protocol.specs.declared.event.Played.TheVariants as played
use Rattle.sm_protocol.specs.Laws.{BegunIsKnown, UnlostIsUnspent}
use Rattle.sm_protocol.proofs.Invariant.{IsKept, IsRunning}
use Rattle.sm_protocol.proofs.Cases.{parcel_taken}
use Rattle.sm_protocol.proofs.Courses.{good, next_turn}
use Rattle.sm_protocol.proofs.Keeping.{begun}
use Rattle.sm_protocol.proofs.Trials.{IsBegun, running}
use Rattle.sm_protocol.proofs.Progress.{call_is_made}
use Rattle.sm_protocol.proofs.Safety.{calls_within}
use Rattle.sm_protocol.proofs.Reached.{reached_run}
use Rattle.sm_protocol.proofs.Whole.{reached_keeps, unhalted_keeps}
use Rattle.sm_protocol.proofs.Losses.{IsUnlost, all_unlost, run_unlost}

-- ---- answers

-- a stream that runs stands before a call, and has made as many tries as it may
record IsAtLimit (w : State) (id : StreamId) : Type 0 where
  pub runs : (progress_of w id).done ≡ false
  pub instr : Instr
  pub here : next_instruction w id ≡ Some instr
  pub call : is_call instr ≡ true
  pub all : ((progress_of w id).tries == allowance w id) ≡ true

-- what a step of a begun stream may be answered: that its allowance is spent only there
abbrev IsAnswer : State → StreamId → Outcome → Type 0
IsAnswer w id (Answered played.Unknown) = ⊥
IsAnswer w id (Answered played.Spent) = IsAtLimit w id
IsAnswer w id _ = Unit {0}

tried_answer : (w : State) (id : StreamId) (i : Instr) (passage : Passage) (answer : Result CallEffect Refusal) → IsAnswer w id (tried w id i passage answer).0
tried_answer w id i LostBefore answer = tt
tried_answer w id i Through (Ok effect) = tt
tried_answer w id i Through (Err why) = tt
tried_answer w id i LostAfter (Ok effect) = tt
tried_answer w id i LostAfter (Err why) = tt

module _ (w : State) (id : StreamId) (passage : Passage) (runs : (progress_of w id).done ≡ false) where
  call_answer : (i : Instr) → next_instruction w id ≡ Some i → is_call i ≡ true → IsAnswer w id (call_tried w id passage i (call_to_make w (progress_of w id) i)).0
  call_answer i here call =
      let c = call_is_made w (progress_of w id) i call in
      subst (λ o. IsAnswer w id (call_tried w id passage i o).0) (sym c.1) (by_tries c.0 ((progress_of w id).tries == allowance w id) refl)
    where
      by_tries : (x : ServerCall) (t : Bool) → ((progress_of w id).tries == allowance w id) ≡ t →
          IsAnswer w id (if t then unchanged w played.Spent else tried w id i passage (called_numbered w.sizes w.place x.shard x.server x.call (if (progress_of w id).pending == 0 then w.next_number else (progress_of w id).pending))).0
      by_tries x true e = record { runs = runs; instr = i; here = here; call = call; all = e }
      by_tries x false e = tried_answer w id i passage _

  made_answer : (o : Option Instr) → next_instruction w id ≡ o → IsAnswer w id (made w id passage o).0
  made_answer None e = tt
  made_answer (Some (Publish s)) e = tt
  made_answer (Some (Unlist s)) e = tt
  made_answer (Some (Signal q)) e = tt
  made_answer (Some (Wait q)) e = by_mark (w.marks id.plan q).posted
    where
      by_mark : (b : Bool) → IsAnswer w id (if b then (Answered played.Moved, parcel_taken w id q) else unchanged w (played.Blocked q)).0
      by_mark true = tt
      by_mark false = tt
  made_answer (Some (PrepareAdd s v u)) e = call_answer (PrepareAdd s v u) e refl
  made_answer (Some (PrepareDrop s u v)) e = call_answer (PrepareDrop s u v) e refl
  made_answer (Some (Add s v role)) e = call_answer (Add s v role) e refl
  made_answer (Some (Drop s v)) e = call_answer (Drop s v) e refl
  made_answer (Some (Change s v role)) e = call_answer (Change s v role) e refl

step_answer : (w : State) (id : StreamId) (passage : Passage) → is_begun w id ≡ true → IsAnswer w id (step w id passage).0
step_answer w id passage b = by_flag w.halted
  where
    by_done : (d : Bool) → (progress_of w id).done ≡ d → IsAnswer w id (if d then unchanged w played.Done else made w id passage (next_instruction w id)).0
    by_done true e = tt
    by_done false e = made_answer w id passage e (next_instruction w id) refl

    by_begun : (c : Bool) → c ≡ true → IsAnswer w id (if c then (if (progress_of w id).done then unchanged w played.Done else made w id passage (next_instruction w id)) else unchanged w played.Unknown).0
    by_begun true e = by_done (progress_of w id).done refl
    by_begun false e = absurd (cc)

    by_flag : (h : Bool) → IsAnswer w id (if h then unchanged w played.Halted
        else if is_begun w id then (if (progress_of w id).done then unchanged w played.Done else made w id passage (next_instruction w id))
        else unchanged w played.Unknown).0
    by_flag true = tt
    by_flag false = by_begun (is_begun w id) b

-- no step of a stream that was begun is Unknown
pub begun_is_known : BegunIsKnown
begun_is_known w id passage b e = subst (IsAnswer w id) e (step_answer w id passage b)

-- a stream that was not begun has spent nothing
none_begun : (w : State) (id : StreamId) (passage : Passage) → is_begun w id ≡ false → (step w id passage).0 ≢ Answered played.Spent
none_begun w id passage n = by_flag w.halted
  where
    by_begun : (c : Bool) → c ≡ false → (if c then (if (progress_of w id).done then unchanged w played.Done else made w id passage (next_instruction w id)) else unchanged w played.Unknown).0 ≢ Answered played.Spent
    by_begun false e s = cc
    by_begun true e s = absurd (cc)

    by_flag : (h : Bool) → (if h then unchanged w played.Halted
        else if is_begun w id then (if (progress_of w id).done then unchanged w played.Done else made w id passage (next_instruction w id))
        else unchanged w played.Unknown).0 ≢ Answered played.Spent
    by_flag true s = cc
    by_flag false s = by_begun (is_begun w id) n s

-- ---- where no call is lost

module _ (w : State) (v : IsKept w) (id : StreamId) (b : is_begun w id ≡ true) (d : (progress_of w id).done ≡ false) where
  there : IsBegun w id
  there = begun w id b

  runs : IsRunning w.sizes w.place (plan_at w id.plan) (w.progress id.plan) (w.marks id.plan)
  runs = running w v id there

  abbrev course : Course
  course = stream_at w.sizes (plan_at w id.plan) id.stream

  is_good : IsGood course
  is_good = good w.sizes w.place (plan_at w id.plan) (w.progress id.plan) (w.marks id.plan) runs id.stream there.stream

  -- a stream that has tried its calls once each has made no more tries than its budget
  within_budget : IsUnlost w id → (progress_of w id).tries ≤ (stream_parts w id).budget
  within_budget (inl e) = absurd (cc)
  within_budget (inr t) = let c = calls_within course (progress_of w id).at is_good in omega arith

  -- and before a call it has made fewer
  not_at_limit : IsUnlost w id → IsAtLimit w id → ⊥
  not_at_limit (inl e) s = absurd (cc)
  not_at_limit (inr t) s =
      let turn = next_turn w.sizes (plan_at w id.plan) id.stream (progress_of w id).at s.instr is_good s.here in
      let calls : calls_before course ((progress_of w id).at + 1) ≡ calls_before course (progress_of w id).at + bit (is_call s.instr) = turn.calls in
      let budget : calls_before course ((progress_of w id).at + 1) ≤ (stream_parts w id).budget = turn.budget in
      let one : bit (is_call s.instr) ≡ 1 = ap bit s.call in
      let all : (progress_of w id).tries ≡ (stream_parts w id).budget + (stream_parts w id).retries + (progress_of w id).refills = eqb-true (progress_of w id).tries (allowance w id) s.all in
      omega arith

-- no stream has spent its allowance
none_spent : (w : State) (v : IsKept (unhalted w)) (id : StreamId) → IsUnlost w id → HasSpent w id → ⊥
none_spent w v id u e = elim (cases_Bool (is_begun w id)) [
  | inr n ↦ absurd (none_begun (unhalted w) id Through n e)
  | inl b ↦ (let s = subst (IsAnswer (unhalted w) id) e (step_answer (unhalted w) id Through b) in not_at_limit (unhalted w) v id b s.runs u s)
]

-- where no call is lost, no allowance is spent, and tries are within their budget
pub unlost_is_unspent : UnlostIsUnspent
unlost_is_unspent setup w es reached none fit losses =
    let kept = reached_keeps setup w reached in
    let fits : AllFit w.sizes es = subst (λ c. AllFit c es) (sym kept.1) fit in
    let v = (reached_keeps setup (run es w) (reached_run setup es w reached fits)).0 in
    let unlost = run_unlost w kept.0 es fits losses (all_unlost setup w reached none) in (
      λ id. none_spent (run es w) (unhalted_keeps (run es w) v) id (unlost id),
      λ id r.
          let p = and_parts (is_begun (run es w) id) (not (progress_of (run es w) id).done) r in
          within_budget (run es w) v id p.0 (not-true (progress_of (run es w) id).done p.1) (unlost id),
    )
