-- All streams that have not made their ends.
use Rattle.std.proofs.Common.{ap, arith, length}
use Rattle.sm_machine.specs.State.{state_of}
use Rattle.sm_executor.proofs.PlanCount.{few_plans}
use Rattle.sm_executor.proofs.StillRunning.{most_so_far}
use Rattle.sm_executor.proofs.unfinished.list_unfinished.Goals as goal

pub overflow_cast-number : goal.overflow_cast-number
overflow_cast-number c =
    let w = state_of c.args.machine.now in
    let few = few_plans c.args.machine.now.placement.setup w c.is_reached.ensures in
    let t = c.loop-number-test.true in
    let e = c.plan_count-number-end.ensures in
    omega arith

pub push_unfinished-requires-clause-room : goal.push_unfinished-requires-clause-room
push_unfinished-requires-clause-room c =
    let w = state_of c.args.machine.now in
    let t = c.loop-number-test.true in
    let e = c.plan_count-number-end.ensures in
    let most = most_so_far c.args.machine.now.placement.setup w c.is_reached.ensures c.loop-number.number (omega arith) in
    let v = c.loop-number.positions.ok in
    let i = ap length c.loop-number.invariant.0 in
    let k = c.loop-number.invariant.1 in
    let l = c.clear.ensures.capacity in
    let q = c.requires in
    omega arith
