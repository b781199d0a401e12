use Rattle.smpland_lines.proofs.Written.{next}
use Rattle.smpland_state.proofs.notices.write_notice_members.Goals as goal

pub returns : goal.returns
returns c =
    let o = c.args.writer.now.tokens in
    let server = rw c.name_of.ensures at c.in_ok-write_text.ensures in
    let journal = rw c.journal.ensures at c.in_ok-write_bits.ensures in
    let fence = rw c.fence.ensures at c.in_ok-write_number.ensures in
    next o _ _ (next o _ _ server journal) fence
