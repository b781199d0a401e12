use Rattle.smpland_lines.proofs.Written.{next}
use Rattle.smpland_state.proofs.letters.write_sizes.Goals as goal

pub returns : goal.returns
returns c = next c.args.writer.now.tokens _ _ (rw c.load_of.ensures at c.in_ok-write_number.ensures) (rw c.room_of.ensures at c.in_ok-write_number-2.ensures)
