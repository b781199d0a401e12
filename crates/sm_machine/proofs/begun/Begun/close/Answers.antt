-- A plan's streams go back, and then its signals.
use Rattle.sm_machine.proofs.Returns.{courses_fit, signals_fit, plan_back}
use Rattle.sm_machine.proofs.begun.Begun.close.Goals as goal

pub close_courses-requires : goal.close_courses-requires
close_courses-requires c = courses_fit _ _ c.self.view_is c.self.invariant.0 _ c.requires

pub close_signals-requires : goal.close_signals-requires
close_signals-requires c = signals_fit _ _ c.self.view_is c.self.invariant.0 _ c.requires _ c.close_courses.ensures

pub returns : goal.returns
returns c = plan_back _ _ c.self.view_is c.self.invariant.0 _ c.requires _ c.close_courses.ensures _ c.close_signals.ensures
