-- The one step that posts a signal, and the one that waits for it.
use Rattle.std.specs.Prelude.{◌≡◌, ◌<◌, ℕ, Bool, Some, List, length, slice_get, slice_index_or}
use Rattle.std.specs.List.{list_any, position_or_len}
use Rattle.sm_plan_code.specs.declared.instruction.Instr.{Instr}
use Rattle.sm_plan_code.specs.declared.instruction.Instr.TheVariants.{Signal, Wait}
use Rattle.sm_plan_code.specs.Plan.{StreamModel, PlanModel, KnowsSignals}
use Rattle.sm_verifier.specs.Stream.{no_stream}
use Rattle.sm_verifier.specs.Order.{code_at, PlanStep}
use Rattle.sm_verifier.specs.Plan.{is_post, is_wait, IsUsedOnce}

-- the first step of a stream whose instruction passes
abbrev pub first_step_in : (Instr → Bool) → List StreamModel → ℕ → PlanStep
first_step_in test streams i = (i, position_or_len test (slice_index_or streams i no_stream).code)

-- the first step whose instruction passes, in the first stream that has one
abbrev pub first_step : (Instr → Bool) → List StreamModel → PlanStep
first_step test streams = first_step_in test streams (position_or_len (λ stream. list_any test stream.code) streams)

-- the first step that posts the signal, in the first stream that has one
unfoldable pub post_of : PlanModel → ℕ → PlanStep
post_of plan k = first_step (is_post k) plan.streams

-- the first step that waits for the signal, in the first stream that has one
unfoldable pub wait_of : PlanModel → ℕ → PlanStep
wait_of plan k = first_step (is_wait k) plan.streams

-- the instruction stands at this step of the plan, and at no other
pub record StandsOnlyAt (plan : PlanModel) (instr : Instr) (step : PlanStep) : Type 0 where
  pub stream : step.0 < length plan.streams
  pub here : slice_get (code_at plan step.0) step.1 ≡ Some instr
  pub only : (i p : ℕ) → slice_get (code_at plan i) p ≡ Some instr → (i ≡ step.0) × (p ≡ step.1)

-- a signal that is used once is posted at one step, and waited for at one
pub record StandsOnce (plan : PlanModel) (k : ℕ) : Type 0 where
  pub post : StandsOnlyAt plan (Signal k) (post_of plan k)
  pub wait : StandsOnlyAt plan (Wait k) (wait_of plan k)

-- so it is of each signal that a plan uses once
abbrev pub SignalsStandOnce : Type 0
SignalsStandOnce = (plan : PlanModel) (k : ℕ) → IsUsedOnce plan k → StandsOnce plan k

-- what is posted or waited for is a signal of the plan
pub record IsOfPlan (plan : PlanModel) (i p k : ℕ) : Type 0 where
  pub post : slice_get (code_at plan i) p ≡ Some (Signal k) → k < length plan.signals
  pub wait : slice_get (code_at plan i) p ≡ Some (Wait k) → k < length plan.signals

-- so it is at each position of a plan that knows its signals
abbrev pub SignalsAreOfPlan : Type 0
SignalsAreOfPlan = (plan : PlanModel) (i p k : ℕ) → KnowsSignals plan → IsOfPlan plan i p k
