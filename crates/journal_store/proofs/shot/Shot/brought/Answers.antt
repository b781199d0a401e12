use Rattle.std.proofs.Common.{refl, rules, arith}
use Rattle.journal_store.proofs.Shots.{left_brought}
use Rattle.journal_store.proofs.shot.Shot.brought.Goals as goal

pub returns-clause-left : goal.returns-clause-left
returns-clause-left c content left = left_brought c.args.self.now _ content c.args.self.now.own_first (search rules) (search rules) (omega (arith, c.args.self.now.own_first, c.args.self.now.on_disk)) (omega (arith, c.args.self.now.own_first, c.args.self.now.within)) refl left
