use Rattle.smpland_session.proofs.Outcomes.{starts_as}
use Rattle.smpland_session.proofs.beginning.start.Goals as goal

pub returns-in_ok-plan-in-Ok : goal.returns-in_ok-plan-in-Ok
returns-in_ok-plan-in-Ok c =
    starts_as c.args.ready.plan c.in-Ok.number c.in_ok-plan-in-Ok.plan c.args.opened.now c.name_plan.new.opened _
    c.in-Ok.ensures.begun c.name_plan.ensures.driver c.in_ok-plan-in-Ok.ensures.plan
