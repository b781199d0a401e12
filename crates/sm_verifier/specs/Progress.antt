-- Streams that have come as far as they have: which of them can make its next step.
use Rattle.std.specs.Prelude.{◌≡◌, ◌≤◌, ◌<◌, ℕ, Some, length, slice_get}
use Rattle.sm_placement.specs.Setup.{Sizes}
use Rattle.sm_plan_code.specs.declared.instruction.Instr.TheVariants.{Wait}
use Rattle.sm_plan_code.specs.Plan.{PlanModel, KnowsSignals}
use Rattle.sm_verifier.specs.Order.{code_at}
use Rattle.sm_verifier.specs.Plan.{IsSound}
use Rattle.sm_verifier.specs.Signals.{post_of}

-- if each stream has made this many steps, its end counted as one, the post of a signal is among them
abbrev pub IsPostMade : PlanModel → (ℕ → ℕ) → ℕ → Type 0
IsPostMade plan to k = (post_of plan k).1 < to (post_of plan k).0

-- if each stream has made this many steps, the stream has one left, and what it waits for there is posted
pub record CanMakeNext (plan : PlanModel) (to : ℕ → ℕ) (i : ℕ) : Type 0 where
  pub stream : i < length plan.streams
  pub left : to i ≤ length (code_at plan i)
  pub posted : (k : ℕ) → slice_get (code_at plan i) (to i) ≡ Some (Wait k) → IsPostMade plan to k

-- in a sound plan, wherever the streams stand, some stream can make its next step unless all have finished
abbrev pub SomeGoesOn : Type 0
SomeGoesOn = (c : Sizes) (plan : PlanModel) (to : ℕ → ℕ) (j : ℕ) →
    KnowsSignals plan → IsSound c plan → j < length plan.streams → to j ≤ length (code_at plan j)
    → (i : ℕ) × CanMakeNext plan to i
