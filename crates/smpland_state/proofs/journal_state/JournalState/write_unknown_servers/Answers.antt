use Rattle.smpland_lines.proofs.Written.{next}
use Rattle.smpland_state.proofs.journal_state.JournalState.write_unknown_servers.Goals as goal

pub returns : goal.returns
returns c =
    let o = c.args.writer.now.tokens in
    let begun = next o _ _ c.in_ok-key.ensures.ok c.in_ok-begin_array.ensures.ok in
    next o _ _ begun (next c.begin_array.new.self.tokens _ _ c.in_ok-write_each_unknown.ensures c.in_ok-end_array.ensures.ok)
