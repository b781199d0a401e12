use Rattle.std.proofs.Common.{rules, arith}
use Rattle.journal_store.proofs.Shots.{crash_is_left}
use Rattle.journal_store.proofs.shot.Shot.crash.Goals as goal

pub returns : goal.returns
returns c = crash_is_left c.args.self.now c.args.front c.args.torn.now _ (omega arith) (omega arith) (search rules)
