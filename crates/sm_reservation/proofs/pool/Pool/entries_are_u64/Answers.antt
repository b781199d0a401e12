-- The amounts are the entries of the lists.
use Rattle.std.proofs.Common.{◌<◌, ◌^◌, subst}
use Rattle.sm_reservation.specs.Pool.{PoolModel, pool_hold}
use Rattle.sm_reservation.proofs.pool.Pool.entries_are_u64.Goals as goal

pub returns-clause-room : goal.returns-clause-room
unfolding pool_hold
returns-clause-room c v = subst (λ (k : PoolModel). (pool_hold k).room v < 2 ^ 64) c.self.view_is (rw c.deref.ensures.value at c.entries_fit.ensures v)

pub returns-clause-spare : goal.returns-clause-spare
unfolding pool_hold
returns-clause-spare c s = subst (λ (k : PoolModel). (pool_hold k).spare s < 2 ^ 64) c.self.view_is (rw c.deref-2.ensures.value at c.entries_fit-2.ensures s)
