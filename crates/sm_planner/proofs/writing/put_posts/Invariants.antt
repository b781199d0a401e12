use Rattle.std.proofs.Common.{◌≡◌, ◌++◌, ◌==◌, map, filter}
use Rattle.std.specs.List.{range_with_len}
use Rattle.sm_plan_code.specs.declared.instruction.Instr.TheVariants.{Signal}
use Rattle.sm_planner.specs.Plan.{signal_at}
use Rattle.sm_planner.proofs.writing.put_posts.Given as goal

abbrev pub invariant-loop-number : goal.invariant-loop-number
invariant-loop-number l = l.code.items ≡ l.initial.code.items ++ map Signal (filter (λ q. (signal_at l.signals q).source == l.k) (range_with_len 0 l.number))
