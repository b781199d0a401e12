-- The entry that is written is the shard's.
use Rattle.std.proofs.Common.{Some, ap, arith}
use Rattle.sm_reservation.specs.Pool.{PoolModel}
use Rattle.sm_reservation.proofs.PoolLemmas.{crown_put}
use Rattle.sm_reservation.proofs.pool.Pool.put_crown.Goals as goal

pub returns-clause-hold : goal.returns-clause-hold
returns-clause-hold c =
    let e = ap (λ (k : PoolModel). k.shards) c.self.view_is in
    crown_put c.args.crown.shard c.number-slot.result (Some (c.args.crown.lead, c.args.crown.listed)) c.self.view_is c.number-slot.ensures (omega (arith, c.self.invariant.crowns))
