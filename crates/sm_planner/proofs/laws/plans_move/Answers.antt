use Rattle.sm_planner.proofs.law.Ended.{has_moved}
use Rattle.sm_planner.proofs.laws.plans_move.Goals as goal

pub returns : goal.returns
returns c = has_moved
