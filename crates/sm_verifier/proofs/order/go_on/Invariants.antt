use Rattle.sm_verifier.specs.Walk.{left, IsWalk}
use Rattle.sm_verifier.proofs.order.go_on.Given as goal

abbrev pub invariant-loop : goal.invariant-loop
invariant-loop l = IsWalk l.plan l.walk

abbrev pub decreases-loop : goal.decreases-loop
decreases-loop l = left l.walk
