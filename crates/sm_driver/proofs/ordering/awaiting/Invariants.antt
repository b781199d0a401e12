use Rattle.std.proofs.Common.{◌≡◌, take}
use Rattle.std.specs.List.{flat_map}
use Rattle.sm_machine.specs.State.{state_of}
use Rattle.sm_driver.specs.Orders.{awaiting_in}
use Rattle.sm_driver.proofs.ordering.awaiting.Given as goal

-- the list has those of the plans so far
abbrev pub invariant-loop-plan : goal.invariant-loop-plan
invariant-loop-plan l = l.list.items ≡ flat_map (awaiting_in (state_of l.machine)) (take l.plan-index l.plan-items)
