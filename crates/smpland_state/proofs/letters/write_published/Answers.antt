use Rattle.smpland_lines.proofs.Written.{next}
use Rattle.smpland_state.proofs.letters.write_published.Goals as goal

pub returns : goal.returns
returns c =
    let o = c.args.writer.now.tokens in
    let shard = rw c.shard_name.ensures at c.in_ok-write_text-2.ensures in
    let named = next o _ _ (next o _ _ c.in_ok-write_name.ensures c.in_ok-write_text.ensures) shard in
    next o _ _ (next o _ _ named c.in_ok-write_listed.ensures) c.in_ok-write_number.ensures
