-- Wherever the streams stand, the first step of an order that is not made can be made.
use Rattle.std.proofs.Common.{◌≡◌, ℕ, suc, ◌<◌, ◌≤◌, Some, List, [], ◌∷◌, ◌++◌, length, refl, sym, ap, subst, ◌∙◌, inl, inr, arith, append_assoc, append-nil}
use Rattle.std.specs.Prelude.{All, slice_get}
use Rattle.std.proofs.lemmas.Bool.{cases_eq, cases_lt}
use Rattle.std.proofs.lemmas.List.Elements.{All-push, All-nil, All-contains}
use Rattle.sm_placement.specs.Setup.{Sizes}
use Rattle.sm_plan_code.specs.declared.instruction.Instr.TheVariants.{Signal, Wait}
use Rattle.sm_plan_code.specs.Plan.{PlanModel, KnowsSignals}
use Rattle.sm_verifier.specs.Order.{code_at, PlanStep, positions_of, IsPosted, IsOrder}
use Rattle.sm_verifier.specs.Plan.{IsSound}
use Rattle.sm_verifier.specs.Signals.{post_of}
use Rattle.sm_verifier.specs.Progress.{IsPostMade, CanMakeNext}
use Rattle.sm_verifier.proofs.Runs.{IsSplit, split_range, positions_append, own_step, from_positions, in_run, stands_in}
use Rattle.sm_verifier.proofs.Once.{stand_once, are_of_plan}

-- ---- over an order and the positions alone

module _ (plan : PlanModel) (steps : List PlanStep) (order : IsOrder plan steps) (to : ℕ → ℕ) where
  abbrev IsMade : PlanStep → Type 0
  IsMade step = step.1 < to step.0

  -- a step that is made posts the signal
  abbrev pub IsPostedByNow : ℕ → Type 0
  IsPostedByNow k = (step : PlanStep) × (step.1 < to step.0) × (slice_get (code_at plan step.0) step.1 ≡ Some (Signal k))

  -- a stream has a step left, and what it waits for there is posted
  pub record CanMakeNextNow (i : ℕ) : Type 0 where
    pub stream : i < length plan.streams
    pub left : to i ≤ length (code_at plan i)
    pub posted : (k : ℕ) → slice_get (code_at plan i) (to i) ≡ Some (Wait k) → IsPostedByNow k

  posted_by_now : (before : List PlanStep) (k : ℕ) → All IsMade before → IsPosted plan k before → IsPostedByNow k
  posted_by_now before k all post = (post.0, All-contains IsMade before post.0 all post.1, post.2)

  -- the first step that is not made is its stream's next one
  first_open : (before after : List PlanStep) (i p : ℕ) → steps ≡ before ++ (i, p) ∷ after → All IsMade before → to i ≤ p → CanMakeNextNow i
  first_open before after i p e all open_yet =
      let known : i < length plan.streams = All-contains (λ s. s.0 < length plan.streams) steps (i, p) order.known (stands_in steps before (i, p) after e) in
      let apart : positions_of i steps ≡ positions_of i before ++ p ∷ positions_of i after = ap (positions_of i) e ∙ positions_append i before ((i, p) ∷ after) ∙ rw (own_step i p after) refl in
      let split : IsSplit (suc (length (code_at plan i))) (positions_of i before) p = split_range (suc (length (code_at plan i))) p (positions_of i before) (positions_of i after) (sym apart ∙ order.own i known) in
      let below = split.below in
      elim (cases_eq p (to i)) [
        | inl here ↦ record {
          stream = known;
          left = omega arith;
          posted = λ k wait. posted_by_now before k all (order.posted before after (i, p) k e (rw here wait));
        }
        | inr past ↦ absurd (let l = All-contains IsMade before (i, to i) all (from_positions i (to i) before (split.front (to i) (omega arith))) in omega arith)
      ]

  search : (before after : List PlanStep) → steps ≡ before ++ after → All IsMade before → (j : ℕ) → j < length plan.streams → to j ≤ length (code_at plan j) → (i : ℕ) × CanMakeNextNow i
  search before [] e all j known left =
      let made : All IsMade steps = rw (e ∙ append-nil before) all in
      absurd (let l = All-contains IsMade steps (j, to j) made (in_run plan steps (λ i. suc (length (code_at plan i))) j (to j) order known (omega arith)) in omega arith)
  search before ((i, p) ∷ after) e all j known left = elim (cases_lt p (to i)) [
    | inl made ↦ search (before ++ (i, p) ∷ []) after (e ∙ sym (append_assoc before ((i, p) ∷ []) after)) (All-push IsMade before (i, p) all made) j known left
    | inr open_yet ↦ (i, first_open before after i p e all open_yet)
  ]

  -- some stream can go on, unless each has made its end
  pub some_next : (j : ℕ) → j < length plan.streams → to j ≤ length (code_at plan j) → (i : ℕ) × CanMakeNextNow i
  some_next j known left = search [] steps refl (All-nil IsMade) j known left

-- ---- where each signal is used once

-- wherever the streams of a sound plan stand, one can make its next step until all have made their ends
pub some_goes_on : (c : Sizes) (plan : PlanModel) (to : ℕ → ℕ) (j : ℕ) → KnowsSignals plan → IsSound c plan → j < length plan.streams → to j ≤ length (code_at plan j) → (i : ℕ) × CanMakeNext plan to i
some_goes_on c plan to j knows sound known left =
    let next = some_next plan sound.order.0 sound.order.1 to j known left in (
      next.0,
      record { stream = next.1.stream; left = next.1.left; posted = λ k wait. made k ((are_of_plan plan next.0 (to next.0) k knows).wait wait) (next.1.posted k wait) },
    )
  where
    made : (k : ℕ) → k < length plan.signals → IsPostedByNow plan sound.order.0 sound.order.1 to k → IsPostMade plan to k
    made k signal post =
        let only = (stand_once plan k (sound.signals k signal)).post.only post.0.0 post.0.1 post.2 in
        subst (λ (s : ℕ). (post_of plan k).1 < to s) only.0 (subst (λ (p : ℕ). p < to post.0.0) only.1 post.1)
