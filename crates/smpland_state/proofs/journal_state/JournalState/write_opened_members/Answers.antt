use Rattle.smpland_lines.proofs.Written.{next}
use Rattle.smpland_state.proofs.journal_state.JournalState.write_opened_members.Goals as goal

pub returns : goal.returns
returns c =
    let o = c.args.writer.now.tokens in
    let journal = rw c.journal.ensures at c.in_ok-write_bits.ensures in
    let epoch = rw c.epoch.ensures at (rw c.from.ensures at c.in_ok-write_number.ensures) in
    let permits = next o _ _ (next o _ _ journal epoch) c.in_ok-write_permits.ensures in
    next o _ _ permits c.in_ok-write_unknown_servers.ensures
