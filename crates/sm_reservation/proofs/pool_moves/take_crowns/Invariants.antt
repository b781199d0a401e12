use Rattle.std.proofs.Common.{◌≡◌, drop}
use Rattle.sm_reservation.specs.Hold.{minus_crowns}
use Rattle.sm_reservation.specs.Pool.{pool_hold, SameSize}
use Rattle.sm_reservation.proofs.pool_moves.take_crowns.Given as goal

abbrev pub invariant-loop-crown : goal.invariant-loop-crown
invariant-loop-crown l = record {
  hold : minus_crowns (pool_hold l.pool) (drop l.crown-index l.crowns) ≡ minus_crowns (pool_hold l.fn.pool) l.crowns;
  size : SameSize l.fn.pool l.pool;
}
