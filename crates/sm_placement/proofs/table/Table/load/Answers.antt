-- The total is the server's, and fits.
use Rattle.std.proofs.Common.{◌≡◌}
use Rattle.sm_placement.specs.Setup.{sizes_of}
use Rattle.sm_placement.specs.Place.{load_of}
use Rattle.sm_placement.specs.Grid.{cells_of}
use Rattle.sm_placement.proofs.TableLemmas.{load_of-read, load-small, IsSetup-read}
use Rattle.sm_placement.proofs.table.Table.load.Goals as goal

pub returns : goal.returns
returns c =
    let now = c.args.self.now in
    let e : c.index.result.now ≡ load_of (sizes_of now.setup) (cells_of now) c.args.server = load_of-read c.args.server c.index.result.now c.self.invariant c.self.view_is c.requires (rw (← c.number.ensures) c.index.ensures) in
    record { load = e; fits = rw e (load-small now.setup (cells_of now) c.args.server (IsSetup-read c.self.invariant c.self.view_is)) }
