-- The line that says why there is no plan.
use Rattle.std.specs.Prelude.{ℕ, List}
use Rattle.sm_placement.specs.Setup.{Setup}
use Rattle.sm_planner.specs.declared.refusal.NoPlan.{NoPlan}
use Rattle.sm_planner.specs.NoPlans.{no_plan_refusal}
use Rattle.sm_report_text.specs.Lines.{refusal_line}

-- Why there is no plan. The line of NoMemory is in no report: if memory is short, nothing is written.
abbrev pub no_plan_line : Setup → NoPlan → List ℕ
no_plan_line setup why = refusal_line (no_plan_refusal setup why)
