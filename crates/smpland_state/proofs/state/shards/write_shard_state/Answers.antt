-- The object, one token after the other.
use Rattle.smpland_lines.proofs.Written.{next}
use Rattle.smpland_state.proofs.state.shards.write_shard_state.Goals as goal

pub returns : goal.returns
returns c =
    let o = c.args.writer.now.tokens in
    next o _ _ (next o _ _ (next o _ _ c.in_ok-key.ensures.ok c.in_ok-begin_object.ensures.ok) c.in_ok-write_shard_member.ensures) c.in_ok-end_object.ensures.ok
