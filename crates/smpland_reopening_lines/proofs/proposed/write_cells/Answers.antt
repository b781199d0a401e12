use Rattle.smpland_lines.proofs.Written.{next}
use Rattle.smpland_reopening_lines.proofs.proposed.write_cells.Goals as goal

pub returns : goal.returns
returns c =
    let o = c.args.writer.now.tokens in
    let begun = next o _ _ c.in_ok-key.ensures.ok c.in_ok-begin_array.ensures.ok in
    let rows = rw (c.in_ok-shards.ensures, c.numbering.ensures.numbering, c.requires.roles) at (rw c.as_slice.ensures.value at c.in_ok-write_each_row.ensures) in
    next o _ _ begun (next c.begin_array.new.self.tokens _ _ rows c.in_ok-end_array.ensures.ok)
