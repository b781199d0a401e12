-- The lines of a plan at a placement: that it is accepted, or why it is refused or held.
use Rattle.std.specs.Prelude.{ℕ, List, [], ◌∷◌, codes, length, count_by, sum_by}
use Rattle.std.specs.Fmt.{decimal}
use Rattle.sm_placement.specs.Setup.{Setup}
use Rattle.sm_plan_code.specs.Instr.{is_call}
use Rattle.sm_plan_code.specs.Plan.{PlanModel}
use Rattle.sm_verifier.specs.declared.checking.Fault.{Fault}
use Rattle.sm_verifier.specs.declared.admission.Holding.{Holding}
use Rattle.sm_refusals.specs.Plans.{check_refusal, holding_refusal}
use Rattle.sm_report_text.specs.Lines.{line, refusal_line}

-- how many calls stand in the codes of a plan's streams
abbrev pub call_count : PlanModel → ℕ
call_count plan = sum_by (λ stream. count_by is_call stream.code) plan.streams

-- the plan is accepted: how many calls stand in its codes, and how many streams it has
abbrev pub accepted_line : PlanModel → List ℕ
accepted_line plan = line (codes "accepted: calls " ∷ decimal (call_count plan) ∷ codes " streams " ∷ decimal (length plan.streams) ∷ [])

-- The line that says what is wrong with a plan. The one of NoMemory is in no report: if memory is short, nothing is
-- written.
abbrev pub fault_line : Fault → List ℕ
fault_line fault = refusal_line (check_refusal fault)

-- The line that says why a plan may not start. No line of 1 or 2 about room or spare replicas is in a report, since
-- only cell rights and crowns are Untrue or Taken.
abbrev pub holding_line : Setup → Holding → List ℕ
holding_line setup holding = refusal_line (holding_refusal setup holding)
