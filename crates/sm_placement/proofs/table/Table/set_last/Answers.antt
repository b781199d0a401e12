-- The slot that is written is the pair's.
use Rattle.sm_placement.proofs.TableLemmas.{lasts_of-set}
use Rattle.sm_placement.proofs.table.Table.set_last.Goals as goal

pub returns-clause-lasts : goal.returns-clause-lasts
returns-clause-lasts c = rw (c.set.ensures, c.slot-slot.ensures) (lasts_of-set c.args.shard c.args.server c.args.number c.self.invariant c.self.view_is c.requires.shard c.requires.server)
