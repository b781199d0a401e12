use Rattle.std.proofs.Common.{◌≡◌, ◌<◌, drop}
use Rattle.sm_reservation.specs.Hold.{plus_cells}
use Rattle.sm_reservation.specs.Pool.{pool_hold, SameSize}
use Rattle.std.specs.List.{AllByRecursion}
use Rattle.sm_reservation.proofs.pool_moves.put_cells.Given as goal

abbrev pub invariant-loop-right : goal.invariant-loop-right
invariant-loop-right l = record {
  known : AllByRecursion (λ x. (x.shard < l.fn.pool.shards) × (x.server < l.fn.pool.servers)) (drop l.right-index l.rights);
  hold : plus_cells (pool_hold l.pool) (drop l.right-index l.rights) ≡ plus_cells (pool_hold l.fn.pool) l.rights;
  size : SameSize l.fn.pool l.pool;
}
