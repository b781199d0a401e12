-- Refills, and steps over links that may lose calls.
use Rattle.std.proofs.Common.{◌≡◌, ◌≤◌, ◌+◌, ◌-◌, ℕ, Bool, true, false, not, refl, sym, ap, ◌∙◌, arith, subst, Option, Some, None, Result, Ok, Err}
use Rattle.std.specs.Prelude.{◌==◌, ◌&&◌, nat_lt, if◌then◌else◌}
use Rattle.std.proofs.lemmas.Bool.{and_parts, ltb-false, not-true}
use Rattle.sm_server.specs.declared.call.Refusal.{Refusal}
use Rattle.sm_placement.specs.Sums.{bit}
use Rattle.sm_placement.specs.Place.{CallEffect}
use Rattle.sm_reservation.specs.declared.stream_id.StreamId.{StreamId}
use Rattle.sm_plan_code.specs.declared.instruction.Instr.{Instr}
use Rattle.sm_plan_code.specs.declared.instruction.Instr.TheVariants.{PrepareAdd, PrepareDrop, Add, Drop, Change, Publish, Unlist, Signal, Wait}
use Rattle.sm_plan_code.specs.declared.call.ServerCall.{ServerCall}
use Rattle.sm_plan_code.specs.declared.limits.TheConstants.{MOST_ALLOWANCE, MOST_CALLS}
use Rattle.sm_plan_code.specs.Instr.{is_call}
use Rattle.sm_plan_code.specs.Acts.{call_of}
use Rattle.sm_protocol.specs.declared.event.Passage.{Passage}
use Rattle.sm_protocol.specs.declared.event.Passage.TheVariants.{Through, LostBefore, LostAfter}
use Rattle.sm_protocol.specs.declared.event.Played.{Played}
use Rattle.sm_protocol.specs.declared.event.RefillFault.{RefillFault}
use Rattle.sm_protocol.specs.declared.event.RefillFault.TheVariants as fault
use Rattle.sm_protocol.specs.declared.event.Played.TheVariants as played
use Rattle.sm_protocol.specs.State.{State, stream_parts, progress_of, is_begun, is_running, next_instruction, allowance, free_places}
use Rattle.sm_protocol.specs.Steps.{Answered, call_number, tried, step}
use Rattle.sm_protocol.specs.Happens.{Refill, refill_fault, refilled, happens}
use Rattle.sm_protocol.proofs.Cases.{IsTry, answer_to}
use Rattle.sm_machine.specs.State.{Whole}
use Rattle.sm_machine.specs.Working.{IsWorking}
use Rattle.sm_machine.specs.Losses.{HasHappened, IsStepOver, is_lost, is_lost_answer, is_call_next, makes_try, event_over}
use Rattle.sm_machine.proofs.ties.Calling.{call_is, call_shard, handover_number}
use Rattle.sm_machine.proofs.ties.Events.{working_refilled}
use Rattle.sm_machine.proofs.ties.Stepping.{step_tried}

-- ---- refills

abbrev fault_by : Bool → Bool → Bool → Option RefillFault
fault_by a b c = if a then Some fault.Ended else if b then Some fault.TooMany else if c then Some fault.LogFull else None

no_fault : (a b c : Bool) → fault_by a b c ≡ None → (a ≡ false) × (b ≡ false) × (c ≡ false)
no_fault true b c e = cc
no_fault false true c e = cc
no_fault false false true e = cc
no_fault false false false e = (refl, refl, refl)

not_false : (b : Bool) → not b ≡ false → b ≡ true
not_false true e = refl
not_false false e = cc

-- a machine whose stream's allowance was raised
pub refill_leaves : (x : Whole) → IsWorking x → (id : StreamId) (more : ℕ) → more ≤ MOST_CALLS → refill_fault x.state id more ≡ None → (y : Whole) →
    y ≡ record x { state = (refilled x.state id more None).1; free = x.free - (more + 1) } → HasHappened x (Refill id more) played.Refilled y
refill_leaves x g id more few none y e =
    let w : State = x.state in
    let a = no_fault (not (is_running w id)) (nat_lt MOST_ALLOWANCE ((stream_parts w id).budget + (stream_parts w id).retries + (progress_of w id).refills + more)) (nat_lt (free_places w) (more + 1)) none in
    let runs = not_false (is_running w id) a.0 in
    let places = g.counted.places in
    let fits = ltb-false (free_places w) (more + 1) a.2 in
    let enough : more + 1 ≤ x.free = omega arith in
    record {
      event = ap (refilled w id more) none ∙ ap (λ v. (Answered played.Refilled, v.state)) (sym e);
      setup = ap (λ v. v.setup) e;
      working = subst IsWorking (sym e) (working_refilled x g id more few none runs enough);
    }

no_both : (b : Bool) → b ≡ true → b ≡ false → ⊥
no_both true e f = absurd cc
no_both false e f = absurd cc

-- ---- steps over links

-- the event of a step whose call fares so
event_step : (w : State) (id : StreamId) (p : Passage) → happens w (event_over id p) ≡ step w id p
event_step w id Through = refl
event_step w id LostBefore = refl
event_step w id LostAfter = refl

-- a try is answered that the call was lost exactly where it was
tried_says : (w : State) (id : StreamId) (i : Instr) (p : Passage) (r : Result CallEffect Refusal) (a : Played) → (tried w id i p r).0 ≡ Answered a → is_lost_answer a ≡ is_lost p
tried_says w id i Through (Ok effect) a e = cc
tried_says w id i Through (Err why) a e = cc
tried_says w id i LostBefore r a e = cc
tried_says w id i LostAfter (Ok effect) a e = cc
tried_says w id i LostAfter (Err why) a e = cc

next_call_is : (o : Option Instr) → is_call_next o ≡ true → (i : Instr) × (o ≡ Some i) × (is_call i ≡ true)
next_call_is None e = cc
next_call_is (Some i) e = (i, refl, e)

has_call : (i : Instr) (n : ℕ) → is_call i ≡ true → (x : ServerCall) × (call_of i n ≡ Some x)
has_call (PrepareAdd s v u) n e = (_, refl)
has_call (PrepareDrop s u v) n e = (_, refl)
has_call (Add s v role) n e = (_, refl)
has_call (Drop s v) n e = (_, refl)
has_call (Change s v role) n e = (_, refl)
has_call (Publish s) n e = cc
has_call (Unlist s) n e = cc
has_call (Signal q) n e = cc
has_call (Wait q) n e = cc

module _ (w : State) (id : StreamId) where
  -- a step that tries a call
  try_says : makes_try w id ≡ true → (p : Passage) (a : Played) → (step w id p).0 ≡ Answered a → is_lost_answer a ≡ is_lost p
  try_says is p a e =
      let now = progress_of w id in
      let b = and_parts (not w.halted) (is_running w id && (is_call_next (next_instruction w id) && not (now.tries == allowance w id))) is in
      let c = and_parts (is_running w id) (is_call_next (next_instruction w id) && not (now.tries == allowance w id)) b.1 in
      let d = and_parts (is_call_next (next_instruction w id)) (not (now.tries == allowance w id)) c.1 in
      let runs = and_parts (is_begun w id) (not now.done) c.0 in
      let n = next_call_is (next_instruction w id) d.0 in
      let s = call_shard n.0 n.2 in
      let x = has_call n.0 (handover_number w.numbers n.0 s.0 now.ahead) n.2 in
      let t : IsTry w id n.0 x.0 = record {
        before = record { begun = runs.0; running = not-true now.done runs.1; next_is = n.1 };
        call = n.2;
        unspent = not-true (now.tries == allowance w id) d.1;
        call_is = call_is w now n.0 s.0 s.1 ∙ x.1;
      } in
      tried_says w id n.0 p (answer_to w id x.0) a (ap (λ z. z.0) (sym (step_tried w id p (not-true w.halted b.0) n.0 x.0 t)) ∙ e)

  module _ {L : Type 0} (asked : L → StreamId → ℕ → Passage → L → Type 0) (answer : Played) (v : State) where
    -- a step that tries a call is one over the link that was asked once, under the try's number
    pub over_tried : (old new : L) (p : Passage) → makes_try w id ≡ true → asked old id (call_number w (progress_of w id)) p new → step w id p ≡ (Answered answer, v) → IsStepOver asked old new w id answer v
    over_tried old new p some was e = record {
      passage = p;
      event = event_step w id p ∙ e;
      lost = try_says some p answer (ap (λ z. z.0) e);
      tried = λ same. was;
      untried = λ none. absurd (no_both (makes_try w id) some none);
    }

    -- where a step tries a call, a count that rises where the try is lost rises where Lost is answered
    pub count_tried : (n m : ℕ) (p : Passage) → makes_try w id ≡ true → m ≡ n + bit (is_lost p) → step w id p ≡ (Answered answer, v) → m ≡ n + bit (is_lost_answer answer)
    count_tried n m p some l e = l ∙ ap (λ t. n + bit t) (sym (try_says some p answer (ap (λ z. z.0) e)))
