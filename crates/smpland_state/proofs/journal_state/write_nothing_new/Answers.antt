use Rattle.smpland_lines.proofs.Written.{next}
use Rattle.smpland_state.proofs.journal_state.write_nothing_new.Goals as goal

pub returns : goal.returns
returns c = next c.args.writer.now.tokens _ _ c.in_ok-write_no_list.ensures c.in_ok-write_no_list-2.ensures
