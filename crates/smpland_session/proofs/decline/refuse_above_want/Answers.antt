use Rattle.std.proofs.Common.{◌∙◌}
use Rattle.smpland_session.proofs.Named.{told_above_want}
use Rattle.smpland_session.proofs.decline.refuse_above_want.Goals as goal

pub returns : goal.returns
returns c =
    told_above_want c.refuse.result c.shard_name.result.now c.from.result c.args.config.now c.args.shard c.args.writer.now.tokens
    c.refuse.new.writer.tokens c.shard_name.ensures (c.from.ensures ∙ c.wanted.ensures) c.refuse.ensures.told
