use Rattle.smpland_lines.proofs.Written.{next}
use Rattle.smpland_state.proofs.since.write_since_members.Goals as goal

pub returns : goal.returns
returns c = next c.args.writer.now.tokens _ _ c.in_ok-write_number.ensures c.in_ok-write_changes_or_later.ensures
