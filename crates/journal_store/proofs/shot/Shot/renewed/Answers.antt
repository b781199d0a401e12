use Rattle.std.proofs.Common.{rules}
use Rattle.journal_store.proofs.Shots.{left_same}
use Rattle.journal_store.proofs.shot.Shot.renewed.Goals as goal

pub returns-clause-left : goal.returns-clause-left
returns-clause-left c content left = left_same c.args.self.now _ content (search rules) (search rules) (search rules) left
