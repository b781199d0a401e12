use Rattle.smpland_lines.proofs.Written.{next}
use Rattle.smpland_state.proofs.journal_state.write_no_list.Goals as goal

pub returns : goal.returns
returns c =
    let o = c.args.writer.now.tokens in
    next o _ _ (next o _ _ c.in_ok-key.ensures.ok c.in_ok-begin_array.ensures.ok) c.in_ok-end_array.ensures.ok
