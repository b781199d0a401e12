-- The total is the shard's, and no more than all servers.
use Rattle.std.proofs.Common.{◌≡◌, length}
use Rattle.sm_placement.specs.Rows.{live_in}
use Rattle.sm_placement.specs.Grid.{cells_of, down_of}
use Rattle.sm_placement.proofs.TableLemmas.{live_in-read, live-small, IsSetup-read}
use Rattle.sm_placement.proofs.table.Table.live.Goals as goal

pub returns : goal.returns
returns c =
    let now = c.args.self.now in
    let e : c.index.result.now ≡ live_in (length now.setup.servers) (cells_of now c.args.shard) (down_of now) = live_in-read c.args.shard c.index.result.now c.self.invariant c.self.view_is c.requires (rw (← c.number.ensures) c.index.ensures) in
    record { live = e; bound = rw e (live-small now.setup (cells_of now c.args.shard) (down_of now) (IsSetup-read c.self.invariant c.self.view_is)) }
