-- The slot that is read is the pair's.
use Rattle.std.proofs.Common.{◌<◌, ◌+◌, ◌*◌, length, sym, subst, arith}
use Rattle.sm_placement.proofs.GridLemmas.{place_within}
use Rattle.sm_reservation.specs.Pool.{PoolModel}
use Rattle.sm_reservation.proofs.PoolLemmas.{cell_read, cell_unknown, stocked_within, stocked_now}
use Rattle.sm_reservation.proofs.pool.Pool.cell_right.Goals as goal

pub index-requires : goal.index-requires
index-requires c =
    let now = c.args.self.now in
    let known = c.in-Some.ensures.known in
    let within : c.args.shard * now.servers + c.args.server < length now.cells = place_within now.cells now.servers now.shards c.args.shard c.args.server (stocked_now c.self.invariant c.self.view_is).cells known.0 known.1 in
    let inside : c.args.shard * now.servers + c.args.server < length c.self.inside.cells.items = subst (λ (k : PoolModel). c.args.shard * now.servers + c.args.server < length k.cells) (sym c.self.view_is) within in
    omega (arith, known.2)

pub returns-in-Some : goal.returns-in-Some
returns-in-Some c =
    let known = c.in-Some.ensures.known in
    cell_read c.args.shard c.args.server c.index.result.now c.self.invariant c.self.view_is known.0 known.1 (rw (← known.2) c.index.ensures)

pub returns-in-None : goal.returns-in-None
returns-in-None c =
    let now = c.args.self.now in
    sym (cell_unknown now.shards now.servers _ c.args.shard c.args.server (stocked_within now (stocked_now c.self.invariant c.self.view_is)) c.in-None.ensures.unknown)
