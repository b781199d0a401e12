-- The slot that is read is the pair's.
use Rattle.sm_placement.proofs.TableLemmas.{cells_of-read}
use Rattle.sm_placement.proofs.table.Table.cell.Goals as goal

pub returns : goal.returns
returns c = cells_of-read c.args.shard c.args.server c.get.result c.self.invariant c.self.view_is c.requires.shard c.requires.server (rw (← c.slot.ensures) c.get.ensures)
