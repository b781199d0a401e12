use Rattle.std.proofs.Common.{◌-◌, length, take, refl, rules, arith}
use Rattle.std.specs.Prelude.{replicate}
use Rattle.journal_store.proofs.Shots.{left_found}
use Rattle.journal_store.proofs.shot.Shot.found.Goals as goal

pub returns-clause-firm : goal.returns-clause-firm
returns-clause-firm c content left =
    let kept = length c.args.bytes.now - c.args.lost in
    left_found _ c.args.bytes.now (replicate (length c.args.bytes.now - length (take kept c.args.bytes.now)) 0) content kept (search rules) refl (omega arith) refl left
