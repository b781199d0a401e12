use Rattle.std.proofs.Common.{◌≡◌, ◌<◌, drop}
use Rattle.sm_reservation.specs.Hold.{plus_spare}
use Rattle.sm_reservation.specs.Pool.{pool_hold, SameSize}
use Rattle.std.specs.List.{AllByRecursion}
use Rattle.sm_reservation.specs.Steps.{AllSteps}
use Rattle.sm_reservation.specs.Turns.{in_spare, SpareFits}
use Rattle.sm_reservation.proofs.pool_moves.put_spares.Given as goal

abbrev pub invariant-loop-spare : goal.invariant-loop-spare
invariant-loop-spare l = record {
  known : AllByRecursion (λ x. x.shard < l.fn.pool.shards) (drop l.spare-index l.spares);
  fits : AllSteps in_spare SpareFits (pool_hold l.pool) (drop l.spare-index l.spares);
  hold : plus_spare (pool_hold l.pool) (drop l.spare-index l.spares) ≡ plus_spare (pool_hold l.fn.pool) l.spares;
  size : SameSize l.fn.pool l.pool;
}
