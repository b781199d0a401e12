use Rattle.smpland_lines.proofs.Written.{next}
use Rattle.smpland_reopening_lines.proofs.settles.write_settles.Goals as goal

pub returns : goal.returns
returns c =
    let o = c.args.writer.now.tokens in
    let begun = next o _ _ c.in_ok-key.ensures.ok c.in_ok-begin_array.ensures.ok in
    let settles = rw c.in_ok-parties.ensures at (rw c.as_slice.ensures.value at c.in_ok-write_each_settle.ensures) in
    next o _ _ begun (next c.begin_array.new.self.tokens _ _ settles c.in_ok-end_array.ensures.ok)
