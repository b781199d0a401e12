use Rattle.smpland_lines.proofs.Written.{next}
use Rattle.smpland_reopening_lines.proofs.settles.write_entries.Goals as goal

pub returns : goal.returns
returns c =
    let o = c.args.writer.now.tokens in
    let begun = next o _ _ c.in_ok-key.ensures.ok c.in_ok-begin_array.ensures.ok in
    let entries = rw (c.in_ok-shards.ensures, c.base.ensures) at (rw c.as_slice.ensures.value at c.in_ok-write_each_entry.ensures) in
    next o _ _ begun (next c.begin_array.new.self.tokens _ _ entries c.in_ok-end_array.ensures.ok)
