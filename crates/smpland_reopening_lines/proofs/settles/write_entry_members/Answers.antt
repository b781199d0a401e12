use Rattle.smpland_lines.proofs.Written.{next}
use Rattle.smpland_reopening_lines.proofs.settles.write_entry_members.Goals as goal

pub returns : goal.returns
returns c =
    let o = c.args.writer.now.tokens in
    let shard = rw (c.shard_name.ensures, c.config.ensures.setup) at c.in_ok-write_text.ensures in
    let to = rw c.listed_name.ensures at c.in_ok-write_name.ensures in
    next o _ _ (next o _ _ shard to) c.in_ok-write_number.ensures
