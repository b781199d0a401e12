use Rattle.sm_plan_code.proofs.Exclusive.{exclusive}
use Rattle.sm_plan_code.proofs.law.reach_is_exclusive.Goals as goal

pub returns : goal.returns
returns g = λ c p leads numbers h k described both. exclusive c p leads numbers h k described both
