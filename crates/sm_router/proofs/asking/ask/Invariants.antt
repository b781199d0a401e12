use Rattle.std.proofs.Common.{◌≤◌}
use Rattle.sm_router.proofs.Hops.{HasCome}
use Rattle.sm_router.proofs.asking.ask.Given as goal

abbrev pub invariant-loop : goal.invariant-loop
invariant-loop g l = (l.counter ≤ 8) × HasCome (g.D.Desk.looked l.desk) (g.D.Desk.arrived l.desk) (g.D.Desk.passed_on l.desk) l.shard l.fn.caller l.counter l.next l.caller
