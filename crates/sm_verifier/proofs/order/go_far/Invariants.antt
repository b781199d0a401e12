use Rattle.sm_verifier.specs.Walk.{left, IsWalk, IsMove}
use Rattle.sm_verifier.proofs.order.go_far.Given as goal

abbrev pub invariant-loop-walk : goal.invariant-loop-walk
invariant-loop-walk l = record {
  walk : IsWalk l.plan l.walk;
  moved : IsMove l.moved l.fn.walk l.walk;
}

abbrev pub decreases-loop-walk : goal.decreases-loop-walk
decreases-loop-walk l = left l.walk
