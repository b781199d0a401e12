use Rattle.std.proofs.Common.{◌≡◌, ◌++◌, vec_capacity}
use Rattle.sm_machine.specs.State.{state_of}
use Rattle.sm_executor.specs.Closed.{unfinished_in}
use Rattle.sm_executor.proofs.unfinished.push_unfinished.Given as goal

-- those of the first streams
abbrev pub invariant-loop-number : goal.invariant-loop-number
invariant-loop-number l = (l.positions.items ≡ l.initial.positions.items ++ unfinished_in (state_of l.machine) l.plan l.number) × (vec_capacity l.positions ≡ vec_capacity l.initial.positions)
