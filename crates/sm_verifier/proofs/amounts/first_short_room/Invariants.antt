use Rattle.std.proofs.Common.{ℕ, ◌<◌, ◌-◌, ◌^◌}
use Rattle.sm_reservation.specs.Pool.{pool_hold}
use Rattle.sm_verifier.specs.Admission.{HasDeclaredRoom}
use Rattle.sm_verifier.proofs.amounts.first_short_room.Given as goal

-- the pool has enough of the numbers so far
abbrev pub invariant-loop-number : goal.invariant-loop-number
invariant-loop-number l = (v : ℕ) → v < l.from → HasDeclaredRoom (pool_hold l.pool) l.streams v

abbrev pub decreases-loop-number : goal.decreases-loop-number
decreases-loop-number l = 2 ^ 32 - l.from
