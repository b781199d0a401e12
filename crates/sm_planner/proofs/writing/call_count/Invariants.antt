use Rattle.std.proofs.Common.{◌≡◌, ◌≤◌, take}
use Rattle.std.specs.Prelude.{count_by}
use Rattle.sm_plan_code.specs.Instr.{is_call}
use Rattle.sm_planner.proofs.writing.call_count.Given as goal

abbrev pub invariant-loop-instr : goal.invariant-loop-instr
invariant-loop-instr l = (l.count ≡ count_by is_call (take l.instr-index l.code)) × (l.count ≤ l.instr-index)
