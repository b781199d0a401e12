use Rattle.sm_plan_code.proofs.Lasts.{lasts_are_unseen}
use Rattle.sm_plan_code.proofs.law.lasts_are_unseen.Goals as goal

pub returns : goal.returns
returns g = λ c p last. lasts_are_unseen c p last
