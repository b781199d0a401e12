-- The entry that is read is the shard's.
use Rattle.sm_placement.proofs.Layouts.{version_read}
use Rattle.sm_placement.proofs.placement.Placement.version.Goals as goal

pub returns : goal.returns
returns c = version_read c.args.shard c.index.result.now c.self.invariant.versions_length c.self.view_is c.requires (rw (← c.number.ensures) c.index.ensures)
