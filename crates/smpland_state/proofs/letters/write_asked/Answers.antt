use Rattle.smpland_lines.proofs.Written.{next}
use Rattle.smpland_state.proofs.letters.write_asked.Goals as goal

pub returns : goal.returns
returns c =
    let o = c.args.writer.now.tokens in
    let server = rw c.server_name.ensures at c.in_ok-write_text.ensures in
    let call = rw c.call_word.ensures at c.in_ok-write_text-2.ensures in
    let shard = rw c.shard_name.ensures at c.in_ok-write_text-3.ensures in
    next o _ _ (next o _ _ (next o _ _ server call) shard) c.in_ok-write_call.ensures
