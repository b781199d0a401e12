-- The slot that is read is the pair's.
use Rattle.std.proofs.Common.{◌∙◌, ap, refl}
use Rattle.sm_server.specs.declared.call.Cell.TheVariants.{Absent}
use Rattle.sm_placement.specs.Lead.{has_part}
use Rattle.sm_placement.specs.Layout.{entries_of}
use Rattle.sm_placement.proofs.TableLemmas.{cells_of-read}
use Rattle.sm_placement.proofs.table.Table.has_part.Goals as goal

pub returns : goal.returns
returns c =
    c.has_part.ensures ∙ ap has_part (cells_of-read c.args.shard c.args.server (entries_of Absent c.self.inside.cells c.slot.result) c.self.invariant c.self.view_is c.requires.shard c.requires.server (rw (← c.slot.ensures) refl))
