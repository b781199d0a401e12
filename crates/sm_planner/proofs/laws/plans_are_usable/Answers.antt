use Rattle.sm_planner.proofs.law.Usable.{plan_is_usable, plan_is_usable_at}
use Rattle.sm_planner.proofs.laws.plans_are_usable.Goals as goal

pub returns : goal.returns
returns c = record { scene = plan_is_usable; reached = plan_is_usable_at }
