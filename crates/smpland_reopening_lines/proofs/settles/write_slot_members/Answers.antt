use Rattle.smpland_lines.proofs.Written.{next}
use Rattle.smpland_reopening_lines.proofs.settles.write_slot_members.Goals as goal

pub returns : goal.returns
returns c =
    let o = c.args.writer.now.tokens in
    let shard = rw c.shard_name.ensures at c.in_ok-write_text.ensures in
    let cell = rw c.settled_cell_word.ensures at c.in_ok-write_text-2.ensures in
    let load = rw c.load.ensures.load at c.in_ok-write_number.ensures in
    next o _ _ (next o _ _ shard cell) load
