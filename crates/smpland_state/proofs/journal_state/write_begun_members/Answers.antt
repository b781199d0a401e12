use Rattle.smpland_lines.proofs.Written.{next}
use Rattle.smpland_state.proofs.journal_state.write_begun_members.Goals as goal

pub returns : goal.returns
returns c =
    let o = c.args.writer.now.tokens in
    let plan = rw c.from.ensures at c.in_ok-write_number.ensures in
    let epoch = rw c.from-2.ensures at c.in_ok-write_number-4.ensures in
    next o _ _ (next o _ _ (next o _ _ plan c.in_ok-write_number-2.ensures) c.in_ok-write_number-3.ensures) epoch
