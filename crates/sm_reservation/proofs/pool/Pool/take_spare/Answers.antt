-- The entry that is written is the shard's, and a shard that isn't known has nothing.
use Rattle.std.proofs.Common.{◌≡◌, ◌≤◌, ◌-◌, ℕ, length, set, ap, ◌∙◌, arith}
use Rattle.sm_reservation.specs.Pool.{PoolModel, pool_hold}
use Rattle.sm_reservation.proofs.PoolLemmas.{spare_put, spare_read, no_spare, stocked_within, stocked_now}
use Rattle.sm_reservation.proofs.pool.Pool.take_spare.Goals as goal

pub returns-then-slot-shard_count-clause-hold : goal.returns-then-slot-shard_count-clause-hold
returns-then-slot-shard_count-clause-hold c =
    let e = ap (λ (k : PoolModel). k.shards) c.self.view_is in
    let read : c.index.result.now ≡ (pool_hold c.args.self.now).spare c.args.spare.shard = spare_read c.args.spare.shard c.index.result.now c.self.invariant c.self.view_is (omega arith) (rw (← c.number-slot.ensures) c.index.ensures) in
    spare_put (length (set c.self.inside.spare.items c.number-slot.result c.saturating_sub.result)) c.args.spare.shard c.number-slot.result c.saturating_sub.result _ c.self.view_is c.number-slot.ensures (omega arith) (c.saturating_sub.ensures ∙ ap (λ (n : ℕ). n - c.args.spare.amount) read)

pub returns-else-slot-shard_count-clause-hold : goal.returns-else-slot-shard_count-clause-hold
returns-else-slot-shard_count-clause-hold c =
    let e = ap (λ (k : PoolModel). k.shards) c.self.view_is in
    let l : c.args.self.now.shards ≤ c.args.spare.shard = omega arith in
    no_spare _ c.args.spare.shard c.args.spare.amount ((stocked_within c.args.self.now (stocked_now c.self.invariant c.self.view_is)).spare c.args.spare.shard l)
