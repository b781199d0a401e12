use Rattle.std.proofs.Common.{ℕ, ◌<◌}
use Rattle.sm_verifier.specs.Counts.{IsOnceAt}
use Rattle.sm_verifier.proofs.signals.first_not_once.Given as goal

abbrev pub invariant-loop-k : goal.invariant-loop-k
invariant-loop-k l = (k : ℕ) → k < l.k → IsOnceAt l.posts l.waits k
