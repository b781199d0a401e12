use Rattle.std.proofs.Common.{slice_index, length}
use Rattle.sm_machine.proofs.Readied.{courses_empty, signals_empty}
use Rattle.sm_machine.proofs.ready_plan.ReadyPlan.back.Goals as goal

pub discard_courses-requires : goal.discard_courses-requires
discard_courses-requires c = courses_empty _ (λ i. slice_index c.self.inside.checked.peaks i) (length c.self.inside.checked.plan.streams) c.self.invariant.0

pub discard_signals-requires : goal.discard_signals-requires
discard_signals-requires c = signals_empty _ _ c.self.invariant.1
