-- The invariant says so.
use Rattle.sm_placement.proofs.TableLemmas.{IsGrid-read}
use Rattle.sm_placement.proofs.table.Table.config.Goals as goal

pub returns-clause-layout : goal.returns-clause-layout
returns-clause-layout c = IsGrid-read c.self.invariant c.self.view_is
