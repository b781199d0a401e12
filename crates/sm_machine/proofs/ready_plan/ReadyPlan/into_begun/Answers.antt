use Rattle.std.proofs.Common.{slice_index, length, ap, sym, ◌∙◌}
use Rattle.sm_machine.proofs.Readied.{courses_count}
use Rattle.sm_machine.proofs.ready_plan.ReadyPlan.into_begun.Goals as goal

pub new-begun-requires-clause-courses : goal.new-begun-requires-clause-courses
new-begun-requires-clause-courses c = courses_count _ (λ i. slice_index c.self.inside.checked.peaks i) (length c.self.inside.checked.plan.streams) c.self.invariant.0 ∙ ap (λ p. length p.streams) (sym c.into_plan-plan.ensures.value)
