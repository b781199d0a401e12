-- Beyond its shards and servers the pool has nothing.
use Rattle.sm_reservation.proofs.PoolLemmas.{stocked_within, stocked_now}
use Rattle.sm_reservation.proofs.pool.Pool.shard_count.Goals as goal

pub returns-clause-within : goal.returns-clause-within
returns-clause-within c = stocked_within _ (stocked_now c.self.invariant c.self.view_is)
