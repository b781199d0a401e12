-- The entry that is written is the shard's, and a shard that isn't known has no crown.
use Rattle.std.proofs.Common.{◌≤◌, None, ap, arith}
use Rattle.sm_reservation.specs.Pool.{PoolModel}
use Rattle.sm_reservation.proofs.PoolLemmas.{crown_put, no_crown, stocked_within, stocked_now}
use Rattle.sm_reservation.proofs.pool.Pool.take_crown.Goals as goal

pub returns-then-slot-shard_count-clause-hold : goal.returns-then-slot-shard_count-clause-hold
returns-then-slot-shard_count-clause-hold c =
    let e = ap (λ (k : PoolModel). k.shards) c.self.view_is in
    crown_put c.args.shard c.number-slot.result None c.self.view_is c.number-slot.ensures (omega (arith, c.self.invariant.crowns))

pub returns-else-slot-shard_count-clause-hold : goal.returns-else-slot-shard_count-clause-hold
returns-else-slot-shard_count-clause-hold c =
    let e = ap (λ (k : PoolModel). k.shards) c.self.view_is in
    let l : c.args.self.now.shards ≤ c.args.shard = omega (arith, c.self.invariant.crowns) in
    no_crown _ c.args.shard ((stocked_within c.args.self.now (stocked_now c.self.invariant c.self.view_is)).crowns c.args.shard l)
