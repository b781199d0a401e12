-- Orders of a plan's steps: lists in which each stream goes its own way, and each wait stands behind a post of its
-- signal.
use Rattle.std.specs.Prelude.{◌≡◌, ◌≤◌, ◌<◌, ◌==◌, ◌++◌, ℕ, suc, min, List, ◌∷◌, length, map, filter, All, Contains}
use Rattle.std.specs.Prelude.{Some, slice_get, slice_index_or}
use Rattle.std.specs.List.{range_with_len}
use Rattle.sm_plan_code.specs.declared.instruction.Instr.{Instr}
use Rattle.sm_plan_code.specs.declared.instruction.Instr.TheVariants.{Signal, Wait}
use Rattle.sm_plan_code.specs.Plan.{PlanModel}
use Rattle.sm_verifier.specs.Stream.{no_stream}

-- the code of the stream at a number
abbrev pub code_at : PlanModel → ℕ → List Instr
code_at plan i = (slice_index_or plan.streams i no_stream).code

-- A step of a plan: a stream's number and a position in its code. The position behind the last instruction is the
-- stream's end.
abbrev pub PlanStep : Type 0
PlanStep = ℕ × ℕ

-- a stream's positions in a list of steps
abbrev pub positions_of : ℕ → List PlanStep → List ℕ
positions_of i steps = map (λ step. step.1) (filter (λ step. step.0 == i) steps)

-- one of these steps posts the signal
abbrev pub IsPosted : PlanModel → ℕ → List PlanStep → Type 0
IsPosted plan k steps = (step : PlanStep) × Contains steps step
    × (slice_get (code_at plan step.0) step.1 ≡ Some (Signal k))

-- each wait stands behind a post of its signal
abbrev pub ArePostsFirst : PlanModel → List PlanStep → Type 0
ArePostsFirst plan steps = (before after : List PlanStep) (step : PlanStep) (k : ℕ) →
    steps ≡ before ++ step ∷ after → slice_get (code_at plan step.0) step.1 ≡ Some (Wait k) → IsPosted plan k before

-- A list of steps that takes each stream as far as `to` says: that number of its first steps, each once and in their
-- order. A stream that has finished is one step further than its code is long.
pub record IsRun (plan : PlanModel) (steps : List PlanStep) (to : ℕ → ℕ) : Type 0 where
  pub known : All (λ step. step.0 < length plan.streams) steps
  pub within : (i : ℕ) → i < length plan.streams → to i ≤ suc (length (code_at plan i))
  pub own : (i : ℕ) → i < length plan.streams → positions_of i steps ≡ range_with_len 0 (to i)
  pub posted : ArePostsFirst plan steps

-- every instruction and every stream's end stands in the list once
abbrev pub IsOrder : PlanModel → List PlanStep → Type 0
IsOrder plan steps = IsRun plan steps (λ i. suc (length (code_at plan i)))

-- there is an order of the plan's steps
abbrev pub HasOrder : PlanModel → Type 0
HasOrder plan = (steps : List PlanStep) × IsOrder plan steps

-- some list takes the streams so far, and none takes any stream further
pub record IsFarthest (plan : PlanModel) (to : ℕ → ℕ) : Type 0 where
  pub reached : (steps : List PlanStep) × IsRun plan steps to
  pub most : (steps : List PlanStep) (other : ℕ → ℕ) → IsRun plan steps other → (i : ℕ) → i < length plan.streams
      → other i ≤ to i

-- The plan has no order, and these are the greatest positions that its streams get to. One that has ended stands at the
-- length of its code.
pub record IsStuckAt (plan : PlanModel) (positions : List ℕ) : Type 0 where
  pub count : length positions ≡ length plan.streams
  pub farthest : (to : ℕ → ℕ) × IsFarthest plan to
      × ((i : ℕ) → i < length plan.streams → slice_get positions i ≡ Some (min (to i) (length (code_at plan i))))
  pub stuck : ¬ HasOrder plan
