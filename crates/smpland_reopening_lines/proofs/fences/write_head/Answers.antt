use Rattle.smpland_lines.proofs.Written.{next}
use Rattle.smpland_reopening_lines.proofs.fences.write_head.Goals as goal

pub returns : goal.returns
returns c =
    let o = c.args.writer.now.tokens in
    let head = rw c.party_name.ensures at c.in_ok-write_name.ensures in
    let base = rw c.base.ensures at c.in_ok-write_number.ensures in
    next o _ _ (next o _ _ head c.in_ok-write_text.ensures) base
