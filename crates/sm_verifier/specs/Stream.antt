-- Streams: which of them are good, and where and why another one breaks off.
use Rattle.std.specs.Prelude.{◌≡◌, ◌≤◌, ◌<◌, ℕ, true, ◌&&◌, nat_le, Option, Some, None, Result, Err, IfSome, IsOk, List}
use Rattle.std.specs.Prelude.{length, take, count_by, slice_get, slice_index_or, [], if◌then◌else◌}
use Rattle.sm_placement.specs.Lead.{is_at_rest}
use Rattle.sm_placement.specs.Setup.{Sizes}
use Rattle.sm_reservation.specs.Rights.{Rights, no_rights}
use Rattle.sm_reservation.specs.Hold.{Hold}
use Rattle.sm_reservation.specs.HoldOf.{hold_of}
use Rattle.sm_plan_code.specs.declared.instruction.Instr.{Instr}
use Rattle.sm_plan_code.specs.declared.instruction.Why.{Why}
use Rattle.sm_plan_code.specs.declared.instruction.Why.TheVariants.{Unsettled, OverBudget}
use Rattle.sm_plan_code.specs.Instr.{is_call}
use Rattle.sm_plan_code.specs.After.{after, hold_at}
use Rattle.sm_plan_code.specs.Plan.{StreamModel, PlanModel}
use Rattle.sm_verifier.specs.Step.{parcels_of}

-- A stream as it is followed: the numbers of the configuration, what each signal carries, how many calls the stream may
-- make, what it holds at its start, and its instructions.
pub record Course : Type 0 where
  pub sizes : Sizes
  pub signals : List Rights
  pub budget : ℕ
  pub holds : Rights
  pub code : List Instr

-- a stream to be followed, of these parts: the configuration's numbers, signals, budget, rights at the start and
-- instructions
abbrev pub course : Sizes → List Rights → ℕ → Rights → List Instr → Course
course c signals budget holds code = record { sizes = c; signals = signals; budget = budget; holds = holds; code = code }

-- a stream of a plan with these signals
abbrev pub course_of : Sizes → List Rights → StreamModel → Course
course_of c signals stream = course c signals stream.budget stream.holds stream.code

-- what is read at a number that no stream has: it holds nothing and has no instruction
abbrev pub no_stream : StreamModel
no_stream = record { budget = 0; retries = 0; holds = no_rights; code = [] }

-- the stream of a plan at a number
abbrev pub stream_at : Sizes → PlanModel → ℕ → Course
stream_at c plan k = course_of c plan.signals (slice_index_or plan.streams k no_stream)

-- the hold before the instruction at a position
abbrev pub hold_before : Course → ℕ → Hold
hold_before s p = hold_at s.sizes (parcels_of s.signals) s.code (hold_of s.holds) p

-- the hold after the whole code
abbrev pub final_hold : Course → Hold
final_hold s = hold_before s (length s.code)

-- how many calls stand before a position
abbrev pub calls_before : Course → ℕ → ℕ
calls_before s p = count_by is_call (take p s.code)

-- every crown that is held is at rest
abbrev pub HasCrownsAtRest : Hold → Type 0
HasCrownsAtRest h = (s : ℕ) → IfSome (h.crowns s) (λ crown. is_at_rest crown.0 ≡ true)

-- Each instruction may be made in its turn, every crown that is held at the end is at rest, and there are no more calls
-- than the budget.
pub record IsGood (s : Course) : Type 0 where
  pub made : (p : ℕ) → IfSome (slice_get s.code p) (λ i. IsOk (after s.sizes (parcels_of s.signals) i (hold_before s p)))
  pub settled : HasCrownsAtRest (final_hold s)
  pub within : count_by is_call s.code ≤ s.budget

-- what is said of an instruction after this many calls: a call is over the budget if they use it up
abbrev pub within_budget : ℕ → ℕ → Instr → Result Hold Why → Result Hold Why
within_budget budget calls i said = if is_call i && nat_le budget calls then Err OverBudget else said

-- the hold after the instruction i at a position, or why it may not be made
abbrev pub made_at : Course → ℕ → Instr → Result Hold Why
made_at s p i = within_budget s.budget (calls_before s p) i (after s.sizes (parcels_of s.signals) i (hold_before s p))

-- what stands at a position breaks the stream off: its instruction, or at the end a crown that is not at rest
abbrev pub BreaksBy : Course → ℕ → Option Instr → Why → Type 0
BreaksBy s p (Some i) why = made_at s p i ≡ Err why
BreaksBy s p None why = (p ≡ length s.code) × (why ≡ Unsettled) × ¬ HasCrownsAtRest (final_hold s)

-- the stream breaks off at a position
abbrev pub BreaksAt : Course → ℕ → Why → Type 0
BreaksAt s p why = BreaksBy s p (slice_get s.code p) why

-- The stream breaks off at this position, and at none before it.
pub record IsFirstBreak (s : Course) (p : ℕ) (why : Why) : Type 0 where
  pub here : BreaksAt s p why
  pub before : (q : ℕ) (w : Why) → q < p → ¬ BreaksAt s q w
