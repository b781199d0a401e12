use Rattle.std.proofs.Common.{◌≡◌, vec_capacity}
use Rattle.sm_machine.specs.State.{state_of}
use Rattle.sm_executor.specs.Closed.{unfinished_to}
use Rattle.sm_executor.proofs.unfinished.list_unfinished.Given as goal

-- those of the first plans
abbrev pub invariant-loop-number : goal.invariant-loop-number
invariant-loop-number l = (l.positions.items ≡ unfinished_to (state_of l.machine) l.number) × (vec_capacity l.positions ≡ vec_capacity l.initial.positions)
