use Rattle.smpland_session.proofs.Named.{told_unknown}
use Rattle.smpland_session.proofs.decline.refuse_unknown.Goals as goal

pub returns : goal.returns
returns c =
    told_unknown c.refuse.result c.server_name.result.now c.args.config.now c.args.server c.args.writer.now.tokens c.refuse.new.writer.tokens
    c.server_name.ensures c.refuse.ensures.told
