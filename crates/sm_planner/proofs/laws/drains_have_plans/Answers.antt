use Rattle.sm_planner.proofs.law.Unrefused.{drain_has_plan}
use Rattle.sm_planner.proofs.laws.drains_have_plans.Goals as goal

pub returns : goal.returns
returns c = drain_has_plan
