-- Plans that pass the check, and what is wrong with other ones.
use Rattle.std.specs.Prelude.{◌≡◌, ◌≤◌, ◌<◌, ◌+◌, ◌==◌, ℕ, Bool, false, length, count_by, sum_by}
use Rattle.sm_placement.specs.Setup.{Sizes}
use Rattle.sm_plan_code.specs.declared.instruction.Instr.{Instr}
use Rattle.sm_plan_code.specs.declared.instruction.Instr.TheVariants.{Signal, Wait}
use Rattle.sm_plan_code.specs.Plan.{PlanModel, IsPlan, IsKnownPlan}
use Rattle.sm_plan_code.specs.declared.instruction.Why.{Why}
use Rattle.sm_verifier.specs.declared.checking.Fault.{Fault}
use Rattle.sm_verifier.specs.declared.checking.Fault.TheVariants.{NoMemory, Budget, SignalNotOnce, Stream, Stuck}
use Rattle.sm_verifier.specs.Stream.{IsGood, IsFirstBreak, stream_at}
use Rattle.sm_verifier.specs.Order.{HasOrder, IsStuckAt}

-- how many calls and retries the streams have together
abbrev pub total_budget : PlanModel → ℕ
total_budget plan = sum_by (λ stream. stream.budget + stream.retries) plan.streams

-- the instruction posts the signal k
abbrev pub is_post : ℕ → Instr → Bool
is_post k (Signal j) = j == k
is_post k _ = false

-- the instruction waits for the signal k
abbrev pub is_wait : ℕ → Instr → Bool
is_wait k (Wait j) = j == k
is_wait k _ = false

-- how often the plan posts the signal k
abbrev pub posts : PlanModel → ℕ → ℕ
posts plan k = sum_by (λ stream. count_by (is_post k) stream.code) plan.streams

-- how often the plan waits for the signal k
abbrev pub waits : PlanModel → ℕ → ℕ
waits plan k = sum_by (λ stream. count_by (is_wait k) stream.code) plan.streams

-- the signal is posted once and waited for once
abbrev pub IsUsedOnce : PlanModel → ℕ → Type 0
IsUsedOnce plan k = (posts plan k ≡ 1) × (waits plan k ≡ 1)

-- the streams' budgets and retries add up to no more than the plan's budget
abbrev pub KeepsBudget : PlanModel → Type 0
KeepsBudget plan = total_budget plan ≤ plan.budget

-- each of the first n signals is used once
abbrev pub AreUsedOnce : PlanModel → ℕ → Type 0
AreUsedOnce plan n = (k : ℕ) → k < n → IsUsedOnce plan k

-- each of the first n streams is good
abbrev pub AreGood : Sizes → PlanModel → ℕ → Type 0
AreGood c plan n = (i : ℕ) → i < n → IsGood (stream_at c plan i)

-- The streams' budgets and retries add up to no more than the plan's budget, each signal is posted once and waited for
-- once, each stream is good, and there is an order of all steps.
pub record IsSound (c : Sizes) (plan : PlanModel) : Type 0 where
  pub budget : KeepsBudget plan
  pub signals : AreUsedOnce plan (length plan.signals)
  pub streams : AreGood c plan (length plan.streams)
  pub order : HasOrder plan

-- a plan that was checked for a configuration of these numbers
pub record IsCheckedPlan (c : Sizes) (plan : PlanModel) : Type 0 where
  pub parts : IsPlan plan
  pub fits : IsKnownPlan c.shards c.servers plan
  pub sound : IsSound c plan

-- ---- what is wrong with a plan

-- the streams' budgets and retries add up to `total`, which is more than the plan's budget `most`
pub record IsOverBudget (plan : PlanModel) (total most : ℕ) : Type 0 where
  pub total_is : total ≡ total_budget plan
  pub most_is : most ≡ plan.budget
  pub over : most < total

-- the lowest signal that is not posted once and waited for once, with its two counts
pub record IsFirstMisused (plan : PlanModel) (k posted awaited : ℕ) : Type 0 where
  pub signal : k < length plan.signals
  pub lower : AreUsedOnce plan k
  pub here : ¬ IsUsedOnce plan k
  pub posted_is : posted ≡ posts plan k
  pub awaited_is : awaited ≡ waits plan k

-- the lowest stream that is not good, with the position where it breaks off and why
pub record IsFirstBad (c : Sizes) (plan : PlanModel) (i at : ℕ) (why : Why) : Type 0 where
  pub stream : i < length plan.streams
  pub lower : AreGood c plan i
  pub here : IsFirstBreak (stream_at c plan i) at why

-- The fault is the plan's first one: the budget comes before the signals, these before the streams, and these before
-- the order. If memory was short, nothing is said.
abbrev pub IsFault : Sizes → PlanModel → Fault → Type 0
IsFault c plan NoMemory = Unit {0}
IsFault c plan (Budget total most) = IsOverBudget plan total most
IsFault c plan (SignalNotOnce k posted awaited) = KeepsBudget plan × IsFirstMisused plan k posted awaited
IsFault c plan (Stream i at why) = KeepsBudget plan × AreUsedOnce plan (length plan.signals)
    × IsFirstBad c plan i at why
IsFault c plan (Stuck positions) =
    KeepsBudget plan
    × AreUsedOnce plan (length plan.signals)
    × AreGood c plan (length plan.streams)
    × IsStuckAt plan positions.items
