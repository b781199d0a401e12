use Rattle.sm_verifier.specs.Walk.{IsWalk}
use Rattle.sm_verifier.proofs.Walks.{IsSwept}
use Rattle.sm_verifier.proofs.order.sweep.Given as goal

abbrev pub invariant-loop-stream : goal.invariant-loop-stream
invariant-loop-stream l = record {
  walk : IsWalk l.plan l.walk;
  swept : IsSwept l.plan l.stream l.moved l.fn.walk l.walk;
}
