use Rattle.std.proofs.Common.{◌≡◌, drop}
use Rattle.sm_reservation.specs.Pool.{pool_hold}
use Rattle.sm_verifier.specs.Finding.{is_free_crown, first_crown}
use Rattle.sm_verifier.proofs.free.taken_crown.Given as goal

-- the first one is among those still to come
abbrev pub invariant-loop-crown : goal.invariant-loop-crown
invariant-loop-crown l =
    first_crown (is_free_crown (pool_hold l.pool) l.earlier) (drop l.crown-index l.crowns) ≡ first_crown (is_free_crown (pool_hold l.pool) l.earlier) l.crowns
