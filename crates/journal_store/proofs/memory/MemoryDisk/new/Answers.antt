use Rattle.std.proofs.Common.{rules}
use Rattle.journal_store.proofs.Shots.{firm_first}
use Rattle.journal_store.proofs.memory.MemoryDisk.new.Goals as goal

pub returns-clause-firm : goal.returns-clause-firm
returns-clause-firm c content left =
    firm_first c.push.new.self.items c.in_ok-shot.shot c.args.bytes.now content c.args.lost (search rules) c.in_ok-shot.ensures.written c.in_ok-shot.ensures.firm left
