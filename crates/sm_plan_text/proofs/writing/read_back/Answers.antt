use Rattle.sm_plan_text.proofs.PlanTextBack.{plan_text_read}
use Rattle.sm_plan_text.proofs.writing.read_back.Goals as goal

pub returns : goal.returns
returns c = plan_text_read c.args.config.now c.args.plan.now c.shard_count-shards.ensures.setup c.budget-budget.ensures.plan c.requires
