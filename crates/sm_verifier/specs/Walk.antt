-- Walks through a plan: how far each stream has come by the steps made, and which streams can go on.
-- Internal definitions: you need not read them for the public contracts.
use Rattle.std.specs.Prelude.{◌≡◌, ◌≤◌, ◌<◌, ◌+◌, ◌-◌, ◌↔◌, ℕ, min, Bool, false, List, length, sum_by, Some, slice_get}
use Rattle.std.specs.Prelude.{slice_index_or, MatchBool, IsTrue, ◌⊎◌}
use Rattle.sm_plan_code.specs.declared.instruction.Instr.{Instr}
use Rattle.sm_plan_code.specs.declared.instruction.Instr.TheVariants.{Signal, Wait}
use Rattle.sm_plan_code.specs.Plan.{PlanModel}
use Rattle.sm_verifier.specs.declared.order.Walk.{Walk}
use Rattle.sm_verifier.specs.Order.{code_at, PlanStep, IsPosted, IsRun}
use Rattle.sm_plan_code.specs.declared.limits.TheConstants.{MOST_INSTRUCTIONS}

-- after steps that take each stream as far as `to` says, a stream has a step left and waits for no signal
pub record CanGoOn (plan : PlanModel) (steps : List PlanStep) (to : ℕ → ℕ) (i : ℕ) : Type 0 where
  pub within : to i ≤ length (code_at plan i)
  pub posted : (k : ℕ) → slice_get (code_at plan i) (to i) ≡ Some (Wait k) → IsPosted plan k steps

-- how many steps a stream has made
abbrev pub steps_made : Walk → ℕ → ℕ
steps_made walk i = slice_index_or walk.positions.items i 0

-- the steps made are a run, and the flags say which signals they post
pub record IsWalk (plan : PlanModel) (walk : Walk) : Type 0 where
  pub streams : length walk.positions.items ≡ length plan.streams
  pub signals : length walk.posted.items ≡ length plan.signals
  pub run : IsRun plan walk.steps.items (steps_made walk)
  pub posted : (k : ℕ) → k < length plan.signals
      → IsTrue (slice_index_or walk.posted.items k false) ↔ IsPosted plan k walk.steps.items

-- a stream can make its next step
abbrev pub CanGo : PlanModel → Walk → ℕ → Type 0
CanGo plan walk i = CanGoOn plan walk.steps.items (steps_made walk) i

-- none of the first streams, up to this number, can go
abbrev pub AreStuck : PlanModel → Walk → ℕ → Type 0
AreStuck plan walk count = (i : ℕ) → i < count → ¬ CanGo plan walk i

-- beside the flags that were set, those of the signal that the instruction posts are set
abbrev pub IsMarked : Instr → List Bool → List Bool → Type 0
IsMarked instr old new = (k : ℕ)
    → IsTrue (slice_index_or new k false) ↔ (IsTrue (slice_index_or old k false) ⊎ (instr ≡ Signal k))

-- how many steps are left at most: a stream has no more instructions than a plan allows, and its end
abbrev pub left : Walk → ℕ
left walk = sum_by (λ position. MOST_INSTRUCTIONS + 1 - position) walk.positions.items

-- if something moved, fewer steps are left
abbrev pub IsMove : Bool → Walk → Walk → Type 0
IsMove moved old new = MatchBool moved (left new < left old) (new ≡ old)

-- fewer steps are left, or no stream can go
abbrev pub IsSweep : PlanModel → Bool → Walk → Walk → Type 0
IsSweep plan moved old new = MatchBool moved (left new < left old) (AreStuck plan new (length plan.streams))

-- every stream of the plan has finished
abbrev pub HaveEnded : PlanModel → List ℕ → Type 0
HaveEnded plan positions = (i : ℕ) → i < length plan.streams → length (code_at plan i) < slice_index_or positions i 0

-- where each stream of the plan stops: at its position, or at its code's length if it has finished
pub record AreStops (plan : PlanModel) (positions stops : List ℕ) : Type 0 where
  pub count : length stops ≡ length plan.streams
  pub each : (i : ℕ) → i < length plan.streams
      → slice_get stops i ≡ Some (min (slice_index_or positions i 0) (length (code_at plan i)))
