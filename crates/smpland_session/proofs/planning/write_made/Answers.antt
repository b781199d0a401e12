use Rattle.std.proofs.Common.{◌∙◌}
use Rattle.smpland_session.proofs.Planned.{plan_written}
use Rattle.smpland_session.proofs.planning.write_made.Goals as goal

pub returns : goal.returns
returns c =
    plan_written c.copy_text.result c.args.config.now c.args.plan.now _ c.args.writer.now.tokens _ _
    (rw c.as_slice.ensures.value c.in_ok-text.ensures.reads_back) (c.as_slice.ensures.value ∙ c.in_ok-text.ensures.text) c.in_ok-key.ensures.ok c.copy_text.ensures
