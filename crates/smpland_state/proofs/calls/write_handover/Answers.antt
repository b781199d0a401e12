use Rattle.smpland_lines.proofs.Written.{next}
use Rattle.smpland_state.proofs.calls.write_handover.Goals as goal

pub returns : goal.returns
returns c = next c.args.writer.now.tokens _ _ (rw c.server_name.ensures at c.in_ok-write_text.ensures) c.in_ok-write_number.ensures
