use Rattle.smpland_lines.proofs.Written.{next}
use Rattle.smpland_state.proofs.cells.write_cell.Goals as goal

pub returns : goal.returns
returns c = next c.args.writer.now.tokens _ _ (rw c.cell_word.ensures at c.in_ok-write_text.ensures) c.in_ok-write_party.ensures
