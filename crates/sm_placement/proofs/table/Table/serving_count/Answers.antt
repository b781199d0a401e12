-- The total is the shard's.
use Rattle.sm_placement.proofs.TableLemmas.{serving_in-read}
use Rattle.sm_placement.proofs.table.Table.serving_count.Goals as goal

pub returns : goal.returns
returns c = serving_in-read c.args.shard c.index.result.now c.self.invariant c.self.view_is c.requires (rw (← c.number.ensures) c.index.ensures)
