use Rattle.smpland_lines.proofs.Written.{next}
use Rattle.smpland_state.proofs.published.write_entry_members.Goals as goal

pub returns : goal.returns
returns c =
    let o = c.args.writer.now.tokens in
    let shard = rw c.shard_name.ensures at c.in_ok-write_text.ensures in
    next o _ _ (next o _ _ shard c.in_ok-write_listed.ensures) c.in_ok-write_number.ensures
