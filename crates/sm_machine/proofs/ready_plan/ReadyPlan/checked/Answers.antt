use Rattle.std.proofs.Common.{length, subst}
use Rattle.sm_placement.specs.Setup.{sizes_of}
use Rattle.sm_machine.specs.Started.{ArePeaksOf}
use Rattle.sm_machine.proofs.ready_plan.ReadyPlan.checked.Goals as goal

pub returns-clause-peaks : goal.returns-clause-peaks
returns-clause-peaks c = subst (λ p. ArePeaksOf (sizes_of p.setup) p (length p.plan.streams)) c.self.view_is c.self.invariant.5
