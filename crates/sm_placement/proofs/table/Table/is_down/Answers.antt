-- The slot that is read is the server's.
use Rattle.sm_placement.proofs.TableLemmas.{down_of-read}
use Rattle.sm_placement.proofs.table.Table.is_down.Goals as goal

pub returns : goal.returns
returns c = down_of-read c.args.server c.index.result.now c.self.invariant c.self.view_is c.requires (rw (← c.number.ensures) c.index.ensures)
