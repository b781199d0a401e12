use Rattle.std.proofs.Common.{◌≡◌, drop}
use Rattle.sm_reservation.specs.Hold.{minus_cells}
use Rattle.sm_reservation.specs.Pool.{pool_hold, SameSize}
use Rattle.sm_reservation.proofs.pool_moves.take_cells.Given as goal

abbrev pub invariant-loop-right : goal.invariant-loop-right
invariant-loop-right l = record {
  hold : minus_cells (pool_hold l.pool) (drop l.right-index l.rights) ≡ minus_cells (pool_hold l.fn.pool) l.rights;
  size : SameSize l.fn.pool l.pool;
}
