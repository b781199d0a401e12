-- The entry that is read is the shard's.
use Rattle.sm_placement.specs.Setup.{sizes_of}
use Rattle.sm_placement.specs.Layout.{place_of}
use Rattle.sm_placement.proofs.Layouts.{listed_read, listed_known, placement_read}
use Rattle.sm_placement.proofs.placement.Placement.listed.Goals as goal

pub returns-clause-listed : goal.returns-clause-listed
returns-clause-listed c = listed_read c.args.shard c.index.result.now c.self.invariant.listed_length c.self.view_is c.requires (rw (← c.number.ensures) c.index.ensures)

pub returns-clause-known : goal.returns-clause-known
returns-clause-known c =
    listed_known (sizes_of c.args.self.now.setup) (place_of c.args.self.now) c.args.shard c.index.result.now (placement_read c.self.invariant.placement c.self.view_is)
    (listed_read c.args.shard c.index.result.now c.self.invariant.listed_length c.self.view_is c.requires (rw (← c.number.ensures) c.index.ensures))
