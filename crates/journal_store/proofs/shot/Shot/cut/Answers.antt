use Rattle.std.proofs.Common.{refl, rules}
use Rattle.journal_store.proofs.Shots.{left_by_cut}
use Rattle.journal_store.proofs.shot.Shot.cut.Goals as goal

pub returns-clause-left : goal.returns-clause-left
returns-clause-left c content left = left_by_cut c.args.self.now _ c.args.least content (search rules) (search rules) (search rules) refl left
