use Rattle.sm_planner.proofs.law.Spreading.{is_spread}
use Rattle.sm_planner.proofs.laws.plans_spread.Goals as goal

pub returns : goal.returns
returns c = is_spread
