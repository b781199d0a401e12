-- The slot that is written is the pair's, and the pair is known.
use Rattle.std.proofs.Common.{◌≤◌, Some, arith}
use Rattle.sm_reservation.proofs.PoolLemmas.{cell_put}
use Rattle.sm_reservation.proofs.pool.Pool.put_cell.Goals as goal

pub returns-in-Some-clause-hold : goal.returns-in-Some-clause-hold
returns-in-Some-clause-hold c =
    let known = c.in-Some.ensures.known in
    cell_put c.args.right.shard c.args.right.server c.in-Some.slot (Some c.args.right.state) c.self.invariant c.self.view_is known.0 known.1 known.2

pub returns-in_default-clause-hold : goal.returns-in_default-clause-hold
returns-in_default-clause-hold c = absurd (let l : c.args.self.now.servers ≤ c.args.right.server = c.in_default.ensures.unknown c.requires.shard in omega (arith, c.requires.server))
