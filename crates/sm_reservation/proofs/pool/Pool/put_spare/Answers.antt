-- The entry that is written is the shard's.
use Rattle.std.proofs.Common.{◌≡◌, ◌+◌, ℕ, length, set, ap, arith}
use Rattle.sm_reservation.specs.Pool.{PoolModel, pool_hold}
use Rattle.sm_reservation.proofs.PoolLemmas.{spare_put, spare_read}
use Rattle.sm_reservation.proofs.pool.Pool.put_spare.Goals as goal

pub overflow_add-index_mut : goal.overflow_add-index_mut
overflow_add-index_mut c =
    let e = ap (λ (k : PoolModel). k.shards) c.self.view_is in
    let read : c.index_mut.result.now ≡ (pool_hold c.args.self.now).spare c.args.spare.shard = spare_read c.args.spare.shard c.index_mut.result.now c.self.invariant c.self.view_is (omega arith) (rw (← c.number-slot.ensures) c.index_mut.ensures.value) in
    omega (arith, c.requires.fits)

pub returns-clause-hold : goal.returns-clause-hold
returns-clause-hold c =
    let e = ap (λ (k : PoolModel). k.shards) c.self.view_is in
    let read : c.index_mut.result.now ≡ (pool_hold c.args.self.now).spare c.args.spare.shard = spare_read c.args.spare.shard c.index_mut.result.now c.self.invariant c.self.view_is (omega arith) (rw (← c.number-slot.ensures) c.index_mut.ensures.value) in
    spare_put (length (set c.self.inside.spare.items c.number-slot.result (c.index_mut.result.now + c.args.spare.amount))) c.args.spare.shard c.number-slot.result (c.index_mut.result.now + c.args.spare.amount) _ c.self.view_is c.number-slot.ensures (omega arith) (ap (λ (n : ℕ). n + c.args.spare.amount) read)
