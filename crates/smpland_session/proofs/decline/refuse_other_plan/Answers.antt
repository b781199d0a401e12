use Rattle.std.specs.Prelude.{codes}
use Rattle.smpland_session.proofs.Named.{told_of_name}
use Rattle.smpland_session.proofs.decline.refuse_other_plan.Goals as goal

pub returns : goal.returns
returns c =
    told_of_name c.refuse.result (codes "OtherPlan") (codes "name") c.args.name.now c.args.writer.now.tokens c.refuse.new.writer.tokens c.refuse.ensures.told
