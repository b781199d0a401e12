-- The text is that of the plan's tokens.
use Rattle.std.proofs.Common.{ap, ◌∙◌}
use Rattle.sm_placement.specs.Setup.{names_of_servers, names_of_shards}
use Rattle.sm_plan_text.specs.Reading.{read_plan}
use Rattle.sm_plan_text.specs.PlanTexts.{plan_data}
use Rattle.sm_plan_text.proofs.Written.{printed_text}
use Rattle.sm_plan_text.proofs.writing.write_plan.Goals as goal

pub returns-clause-text : goal.returns-clause-text
returns-clause-text c =
    printed_text (plan_data (names_of_shards c.args.config.now) (names_of_servers c.args.config.now) c.args.plan.now) _ _ _ _ _ _
    c.new.ensures.items c.new-out.ensures.before c.new-out.ensures.tokens c.write_members.ensures.before c.in_ok-write_members.ensures.tokens c.into_inner.ensures.items

pub returns-clause-reads_back : goal.returns-clause-reads_back
returns-clause-reads_back c = ap (read_plan (names_of_shards c.args.config.now) (names_of_servers c.args.config.now)) (returns-clause-text c) ∙ c.read_back.ensures
