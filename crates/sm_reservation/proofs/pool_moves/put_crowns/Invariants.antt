use Rattle.std.proofs.Common.{◌≡◌, ◌<◌, drop}
use Rattle.sm_reservation.specs.Hold.{plus_crowns}
use Rattle.sm_reservation.specs.Pool.{pool_hold, SameSize}
use Rattle.std.specs.List.{AllByRecursion}
use Rattle.sm_reservation.proofs.pool_moves.put_crowns.Given as goal

abbrev pub invariant-loop-crown : goal.invariant-loop-crown
invariant-loop-crown l = record {
  known : AllByRecursion (λ x. x.shard < l.fn.pool.shards) (drop l.crown-index l.crowns);
  hold : plus_crowns (pool_hold l.pool) (drop l.crown-index l.crowns) ≡ plus_crowns (pool_hold l.fn.pool) l.crowns;
  size : SameSize l.fn.pool l.pool;
}
