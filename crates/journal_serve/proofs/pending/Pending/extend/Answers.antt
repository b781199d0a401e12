use Rattle.std.proofs.Common.{rules}
use Rattle.journal_serve.proofs.Lines.{kept_more}
use Rattle.journal_serve.proofs.pending.Pending.extend.Goals as goal

pub returns-clause-taken : goal.returns-clause-taken
returns-clause-taken c raw is =
    kept_more c.args.most _ raw c.args.part.now c.args.self.now.text.items _ is (search rules) (c.in_ok-extend_from_slice.ensures.items)
