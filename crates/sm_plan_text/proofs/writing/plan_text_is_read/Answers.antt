use Rattle.sm_plan_text.proofs.PlanTextBack.{plan_text_read}
use Rattle.sm_plan_text.proofs.writing.plan_text_is_read.Goals as goal

pub returns : goal.returns
returns c = plan_text_read
