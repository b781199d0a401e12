-- The slot that is written is the pair's, and a pair that isn't known has no right.
use Rattle.std.proofs.Common.{None}
use Rattle.sm_reservation.proofs.PoolLemmas.{cell_put, cell_unknown, no_cell, stocked_within, stocked_now}
use Rattle.sm_reservation.proofs.pool.Pool.take_cell.Goals as goal

pub returns-in-Some-clause-hold : goal.returns-in-Some-clause-hold
returns-in-Some-clause-hold c =
    let known = c.in-Some.ensures.known in
    cell_put c.args.shard c.args.server c.in-Some.slot None c.self.invariant c.self.view_is known.0 known.1 known.2

pub returns-in_default-clause-hold : goal.returns-in_default-clause-hold
returns-in_default-clause-hold c =
    let now = c.args.self.now in
    no_cell _ c.args.shard c.args.server (cell_unknown now.shards now.servers _ c.args.shard c.args.server (stocked_within now (stocked_now c.self.invariant c.self.view_is)) c.in_default.ensures.unknown)
