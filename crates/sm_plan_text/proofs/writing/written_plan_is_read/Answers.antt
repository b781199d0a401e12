use Rattle.sm_plan_text.proofs.WrittenPlans.{written_is_read}
use Rattle.sm_plan_text.proofs.writing.written_plan_is_read.Goals as goal

pub returns : goal.returns
returns c = written_is_read
