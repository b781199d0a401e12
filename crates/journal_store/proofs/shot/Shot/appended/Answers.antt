use Rattle.std.proofs.Common.{rules}
use Rattle.journal_store.proofs.Shots.{left_by_append}
use Rattle.journal_store.proofs.shot.Shot.appended.Goals as goal

pub returns-clause-left : goal.returns-clause-left
returns-clause-left c content left = left_by_append c.args.self.now _ c.args.bytes.now content (search rules) (search rules) (search rules) left
