use Rattle.smpland_lines.proofs.Written.{next}
use Rattle.smpland_state.proofs.state.shards.write_shard_member.Goals as goal

pub returns : goal.returns
returns c = next c.args.writer.now.tokens _ _ c.in_ok-key.ensures.ok c.in_ok-write_shard.ensures
