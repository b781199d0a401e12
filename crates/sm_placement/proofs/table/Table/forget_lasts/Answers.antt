-- Every slot has 0.
use Rattle.std.proofs.Common.{length}
use Rattle.sm_placement.proofs.GridLemmas.{grid_of-empty}
use Rattle.sm_placement.proofs.table.Table.forget_lasts.Goals as goal

pub returns-clause-lasts : goal.returns-clause-lasts
returns-clause-lasts c = rw c.forget.ensures (grid_of-empty (length c.self.inside.config.servers) 0 (length c.self.inside.lasts))
