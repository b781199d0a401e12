-- States in which no call was lost, and what the controller's own events leave as it is.
use Rattle.std.proofs.Common.{◌≡◌, ◌≢◌, ℕ, ◌+◌, ◌≤◌, ◌⊎◌, refl, ap, ◌∙◌, inl, inr, subst, arith, true, false, Some, None, length, [], ◌∷◌}
use Rattle.std.specs.Prelude.{is_none, if◌then◌else◌, slice_index_or}
use Rattle.std.proofs.lemmas.Bool.{ne_eqb}
use Rattle.sm_placement.specs.Sums.{bit}
use Rattle.sm_reservation.specs.declared.stream_id.StreamId.{StreamId}
use Rattle.sm_plan_code.specs.declared.instruction.Instr.{Instr}
use Rattle.sm_plan_code.specs.declared.instruction.Instr.TheVariants.{Publish, Unlist, Signal, Wait}
use Rattle.sm_plan_code.specs.declared.call.ServerCall.{ServerCall}
use Rattle.sm_plan_code.specs.Instr.{is_call}
use Rattle.sm_plan_code.specs.Acts.{next_call}
use Rattle.sm_plan_code.specs.Plan.{PlanModel}
use Rattle.sm_verifier.specs.Stream.{calls_before, no_stream, stream_at}
use Rattle.sm_protocol.specs.declared.event.Event.{Event}
use Rattle.sm_protocol.specs.declared.event.Played.{Played}
use Rattle.sm_protocol.specs.declared.event.Passage.{Passage}
use Rattle.sm_protocol.specs.declared.event.Passage.TheVariants.{LostAfter, LostBefore, Through}
use Rattle.sm_protocol.specs.State.{Progress, State, allowance, is_begun, logged, plan_at, progress_of, set_progress, stream_parts}
use Rattle.sm_protocol.specs.Steps.{Outcome}
use Rattle.sm_protocol.specs.Happens.{Happening, Lose, happens}
use Rattle.sm_protocol.specs.Laws.{FitsConfig, LosesNothing}
use Rattle.sm_protocol.proofs.Invariant.{IsKept}
use Rattle.sm_protocol.proofs.Cases.{IsBefore, IsTry, OfSteps, of_any, of_happens}
use Rattle.sm_protocol.proofs.LogRoom.{begun_parts, begun_stays, length_logged, plan_before}
use Rattle.sm_protocol.proofs.Losses.{IsUnlost, run_unlost}
use Rattle.sm_protocol.proofs.Numbers.{each_stream, goes_on}
use Rattle.sm_protocol.proofs.Reached.{same_machine}
use Rattle.sm_protocol.proofs.Trials.{call_at}
use Rattle.sm_protocol.proofs.Tries.{turn}
use Rattle.laws_network.proofs.Traced.{instruction_call, call_now, is_own}
use Rattle.laws_network.proofs.Apart.{IsAtCall}
use Rattle.laws_network.proofs.Calls.{IsReady}

-- No call was lost, and the flag is not set.
pub record IsCalm (w : State) : Type 0 where
  pub halted : w.halted ≡ false
  pub unmade : (id : StreamId) → (progress_of w id).ahead ≡ false
  pub unlost : (id : StreamId) → IsUnlost w id

-- a stream that stands before a call can try it
pub ready : {w : State} {id : StreamId} {i : Instr} {x : ServerCall} → IsKept w → IsCalm w → IsAtCall w id i x → IsReady w id i x
ready {w} {id} {i} {x} v calm t = record { at = t; unmade = calm.unmade id; unspent = ne_eqb (progress_of w id).tries (allowance w id) (λ e. unspent e (calm.unlost id)) }
  where
    unspent : (progress_of w id).tries ≡ allowance w id → IsUnlost w id → ⊥
    unspent e (inl d) = absurd (let r = t.before.running in cc)
    unspent e (inr u) =
        let now = progress_of w id in
        let s = stream_at w.sizes (plan_at w id.plan) id.stream in
        let here = turn w v id i t.before in
        let calls : calls_before s (now.at + 1) ≡ calls_before s now.at + bit (is_call i) = here.calls in
        let budget : calls_before s (now.at + 1) ≤ (stream_parts w id).budget = here.budget in
        let one : bit (is_call i) ≡ 1 = ap bit t.call in
        let all : now.tries ≡ (stream_parts w id).budget + (stream_parts w id).retries + now.refills = e in
        absurd (omega arith)

-- ---- events that lose nothing

module _ (w : State) (u : (id : StreamId) → (progress_of w id).ahead ≡ false) where
  put_unmade : (id : StreamId) (y : Progress) → y.ahead ≡ false → (other : StreamId) → (set_progress w id y other.plan other.stream).ahead ≡ false
  put_unmade id y e = each_stream (goes_on w id y) (λ j z. z.ahead ≡ false) e (λ j n. u j)

  abbrev AreUnmade : Outcome × State → Type 0
  AreUnmade o = (id : StreamId) → (progress_of o.1 id).ahead ≡ false

  unmade_by_steps : (id : StreamId) → OfSteps w id Through (λ o. Unit {0} → AreUnmade o)
  unmade_by_steps id = record {
    idle = λ answer l. u;
    refused = λ i x why t e l. u;
    at_end = λ b l. put_unmade id _ (u id);
    publishes = λ i s server b c l. put_unmade id _ (u id);
    posts = λ q b l. put_unmade id _ (u id);
    awaits = λ q b e l. put_unmade id _ (u id);
    lost = λ i x t p l. absurd (cc);
    through = λ i x effect t a p l. put_unmade id _ refl;
    unanswered = λ i x effect t a p l. absurd (cc);
  }

  stays_unmade : (e : Happening) → LosesNothing e → AreUnmade (happens w e)
  stays_unmade e = of_happens w (λ e o. LosesNothing e → AreUnmade o) (record {
    idle = λ e answer n l. u;
    steps = unmade_by_steps;
    loses = λ id after. of_any (λ o. LosesNothing (Lose id after) → AreUnmade o) (λ o l. absurd l);
    refills = λ id more f l. put_unmade id _ (u id);
    arrives = λ s v f l. u;
    passes_on = λ t o f l. u;
    approves = λ v f l. u;
    restarts = λ v f l. u;
    starts = λ plan h f g l. u;
  }) e

-- an event that loses nothing leads on to such a state
pub calm_next : (w : State) → IsKept w → IsCalm w → (e : Happening) → FitsConfig w.sizes e → LosesNothing e → IsCalm (happens w e).1
calm_next w v calm e fits l = record {
  halted = (same_machine w e).halted ∙ calm.halted;
  unmade = stays_unmade w calm.unmade e l;
  unlost = run_unlost w v (e ∷ []) (fits, tt) (l, tt) calm.unlost;
}

-- ---- what the controller's own events leave as it is

-- A stream that stands so is as it was, or it stood before no call, and has gone on.
abbrev pub IsLikeBy : State → StreamId → Progress → Type 0
IsLikeBy w id z =
    ((z.done ≡ (progress_of w id).done) × (z.at ≡ (progress_of w id).at))
    ⊎ ((call_now w id ≡ None) × ((z.done ≡ true) ⊎ (z.at ≢ (progress_of w id).at)))

pub record IsFrame (w new : State) : Type 0 where
  pub cells : new.place.cells ≡ w.place.cells
  pub numbers : new.numbers ≡ w.numbers
  pub log : length w.log ≤ length new.log
  pub streams : (id : StreamId) → is_begun w id ≡ true → (is_begun new id ≡ true) × (stream_parts new id ≡ stream_parts w id) × IsLikeBy w id (progress_of new id)

-- no instruction that is no call has one
no_call : (numbers : ℕ → ℕ) (i : Instr) → is_call i ≡ false → next_call numbers i ≡ None
no_call numbers (Publish s) e = refl
no_call numbers (Unlist s) e = refl
no_call numbers (Signal k) e = refl
no_call numbers (Wait k) e = refl
no_call numbers _ e = cc

longer : (w : State) (x : Event) (a : Played) → length w.log ≤ length (logged w x a)
longer w x a = let l = length_logged w x a in omega arith

module _ (w : State) where
  same : IsFrame w w
  same = record { cells = refl; numbers = refl; log = omega arith; streams = λ id b. (b, refl, inl (refl, refl)) }

  put_like : (id : StreamId) (y : Progress) → IsLikeBy w id y → (other : StreamId) → IsLikeBy w other (set_progress w id y other.plan other.stream)
  put_like id y own = each_stream (goes_on w id y) (λ j z. IsLikeBy w j z) own (λ j n. inl (refl, refl))

  one_more : (n : ℕ) → n + 1 ≡ n → ⊥
  one_more n e = absurd (omega arith)

  -- an instruction that is no call is made
  past : (id : StreamId) (i : Instr) → IsBefore w id (Some i) → is_call i ≡ false → IsLikeBy w id (record (progress_of w id) { at = (progress_of w id).at + 1 })
  past id i b c = inr (ap (instruction_call w.numbers) b.next_is ∙ no_call w.numbers i c, inr (one_more (progress_of w id).at))

  -- no call is tried
  no_try : (id : StreamId) (i : Instr) (x : ServerCall) → IsTry w id i x → is_none (call_now w id) ≡ true → ⊥
  no_try id i x t e =
      let c = call_at w.numbers i t.call in
      let some : call_now w id ≡ Some c.call = ap (instruction_call w.numbers) t.before.next_is ∙ c.next in
      absurd (let z : is_none (Some c.call) ≡ true = subst (λ o. is_none o ≡ true) some e in cc)

  frame_by_steps : (id : StreamId) → OfSteps w id Through (λ o. is_none (call_now w id) ≡ true → IsFrame w o.1)
  frame_by_steps id = record {
    idle = λ answer e. same;
    refused = λ i x why t f e. same;
    at_end = λ b e. record { cells = refl; numbers = refl; log = longer w _ _; streams = λ j c. (c, refl, put_like id _ (inr (ap (instruction_call w.numbers) b.next_is, inl refl)) j) };
    publishes = λ i s server b c e. record { cells = refl; numbers = refl; log = longer w _ _; streams = λ j d. (d, refl, put_like id _ (past id i b c) j) };
    posts = λ q b e. record { cells = refl; numbers = refl; log = longer w _ _; streams = λ j d. (d, refl, put_like id _ (past id (Signal q) b refl) j) };
    awaits = λ q b p e. record { cells = refl; numbers = refl; log = longer w _ _; streams = λ j d. (d, refl, put_like id _ (past id (Wait q) b refl) j) };
    lost = λ i x t p e. absurd (no_try id i x t e);
    through = λ i x effect t a p e. absurd (no_try id i x t e);
    unanswered = λ i x effect t a p e. absurd (no_try id i x t e);
  }

  -- the controller's own events leave the cells, and each stream that stands before a call, as they are
  pub own_frame : (e : Happening) → is_own w e ≡ true → IsFrame w (happens w e).1
  own_frame e = of_happens w (λ e o. is_own w e ≡ true → IsFrame w o.1) (record {
    idle = λ e answer n o. same;
    steps = frame_by_steps;
    loses = λ id after. of_any (λ o. is_own w (Lose id after) ≡ true → IsFrame w o.1) (λ o l. absurd (cc));
    refills = λ id more f o. record { cells = refl; numbers = refl; log = longer w _ _; streams = λ j d. (d, refl, put_like id _ (inl (refl, refl)) j) };
    arrives = λ s v f l. absurd (cc);
    passes_on = λ t o f l. absurd (cc);
    approves = λ v f o. record { cells = refl; numbers = refl; log = longer w _ _; streams = λ j d. (d, refl, inl (refl, refl)) };
    restarts = λ v f o. record { cells = refl; numbers = refl; log = longer w _ _; streams = λ j d. (d, refl, inl (refl, refl)) };
    starts = λ plan h f g o. record {
      cells = refl;
      numbers = refl;
      log = omega arith;
      streams = λ j d. (begun_stays w plan j d, ap (λ (p : PlanModel). slice_index_or p.streams j.stream no_stream) (plan_before w plan j.plan (begun_parts w j d).0), inl (refl, refl));
    };
  }) e

-- ---- positions

module _ (w : State) where
  abbrev AreFurther : Outcome × State → Type 0
  AreFurther o = (id : StreamId) → (progress_of w id).at ≤ (progress_of o.1 id).at

  put_further : (id : StreamId) (y : Progress) → (progress_of w id).at ≤ y.at → (other : StreamId) → (progress_of w other).at ≤ (set_progress w id y other.plan other.stream).at
  put_further id y e = each_stream (goes_on w id y) (λ j z. (progress_of w j).at ≤ z.at) e (λ j n. omega arith)

  further_by_steps : (id : StreamId) (passage : Passage) → OfSteps w id passage AreFurther
  further_by_steps id passage = record {
    idle = λ answer j. omega arith;
    refused = λ i x why t e j. omega arith;
    at_end = λ b. put_further id _ (omega arith);
    publishes = λ i s server b c. put_further id _ (omega arith);
    posts = λ q b. put_further id _ (omega arith);
    awaits = λ q b e. put_further id _ (omega arith);
    lost = λ i x t p. put_further id _ (omega arith);
    through = λ i x effect t a p. put_further id _ (omega arith);
    unanswered = λ i x effect t a p. put_further id _ (omega arith);
  }

  -- no stream goes back
  pub at_grows : (e : Happening) (id : StreamId) → (progress_of w id).at ≤ (progress_of (happens w e).1 id).at
  at_grows e = of_happens w (λ e o. AreFurther o) (record {
    idle = λ e answer n j. omega arith;
    steps = λ id. further_by_steps id Through;
    loses = λ id after. further_by_steps id (if after then LostAfter else LostBefore);
    refills = λ id more f. put_further id _ (omega arith);
    arrives = λ s v f j. omega arith;
    passes_on = λ t o f j. omega arith;
    approves = λ v f j. omega arith;
    restarts = λ v f j. omega arith;
    starts = λ plan h f g j. omega arith;
  }) e
