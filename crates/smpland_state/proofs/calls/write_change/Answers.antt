use Rattle.smpland_lines.proofs.Written.{next}
use Rattle.smpland_state.proofs.calls.write_change.Goals as goal

pub returns : goal.returns
returns c = next c.args.writer.now.tokens _ _ (rw c.role_word.ensures at c.in_ok-write_text.ensures) (rw c.role_word-2.ensures at c.in_ok-write_text-2.ensures)
