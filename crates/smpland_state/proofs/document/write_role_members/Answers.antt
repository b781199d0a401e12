use Rattle.smpland_lines.proofs.Written.{next}
use Rattle.smpland_state.proofs.document.write_role_members.Goals as goal

pub returns : goal.returns
returns c = next c.args.writer.now.tokens _ _ c.in_ok-write_text.ensures c.in_ok-write_text-2.ensures
