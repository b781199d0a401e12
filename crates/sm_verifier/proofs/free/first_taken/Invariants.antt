use Rattle.std.proofs.Common.{ℕ, ◌<◌}
use Rattle.sm_reservation.specs.declared.right.Key.{Key}
use Rattle.sm_reservation.specs.Pool.{pool_hold}
use Rattle.sm_verifier.specs.Admission.{IsFreeAt}
use Rattle.sm_verifier.proofs.free.first_taken.Given as goal

-- what the streams so far declare is free
abbrev pub invariant-loop-number : goal.invariant-loop-number
invariant-loop-number l = (j : ℕ) → j < l.number → (key : Key) → IsFreeAt (pool_hold l.pool) l.streams j key
