use Rattle.std.proofs.Common.{◌≡◌, drop}
use Rattle.sm_reservation.specs.Hold.{minus_spare}
use Rattle.sm_reservation.specs.Pool.{pool_hold, SameSize}
use Rattle.sm_reservation.proofs.pool_moves.take_spares.Given as goal

abbrev pub invariant-loop-spare : goal.invariant-loop-spare
invariant-loop-spare l = record {
  hold : minus_spare (pool_hold l.pool) (drop l.spare-index l.spares) ≡ minus_spare (pool_hold l.fn.pool) l.spares;
  size : SameSize l.fn.pool l.pool;
}
