-- A cell that a placement keeps names known servers alone.
use Rattle.std.proofs.Common.{ap, length}
use Rattle.sm_placement.specs.Layout.{PlacementModel, place_of}
use Rattle.sm_placement.proofs.Sums.{put2-here}
use Rattle.sm_placement.proofs.placement.Placement.set_cell.Goals as goal

pub set_cell-requires-clause-known : goal.set_cell-requires-clause-known
set_cell-requires-clause-known c =
    rw (ap (λ (l : PlacementModel). length l.setup.servers) c.self.view_is, ← put2-here (place_of c.args.self.now).cells c.args.shard c.args.server c.args.cell) (c.requires.kept.known c.args.shard c.args.server)
