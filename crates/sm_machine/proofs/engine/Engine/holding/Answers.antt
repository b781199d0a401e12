-- The reason why a plan may not start.
use Rattle.std.proofs.Common.{sym, subst, length}
use Rattle.sm_plan_code.specs.Plan.{IsKnownPlan}
use Rattle.sm_machine.specs.contracts.engine.Engine.{the_view}
use Rattle.sm_machine.proofs.Held.{not_held, held_up, true_inside}
use Rattle.sm_machine.proofs.engine.Engine.holding.Goals as goal

pub returns-in-Ok : goal.returns-in-Ok
returns-in-Ok c =
    not_held (the_view c.self.inside) c.args.self.now c.self.view_is c.args.checked.now c.requires.setup c.plan.result.now c.plan.ensures.value c.streams-plan.ensures.plan
    (subst (λ m. IsKnownPlan (length c.args.checked.now.setup.shards) (length c.args.checked.now.setup.servers) m) (sym c.plan.ensures.value) c.plan.ensures.fits) c.in-Ok.ensures.admitted

pub returns-in-Err : goal.returns-in-Err
returns-in-Err c =
    held_up (the_view c.self.inside) c.args.self.now c.self.view_is c.args.checked.now c.requires.setup c.plan.result.now c.plan.ensures.value c.streams-plan.ensures.plan
    (subst (λ m. IsKnownPlan (length c.args.checked.now.setup.shards) (length c.args.checked.now.setup.servers) m) (sym c.plan.ensures.value) c.plan.ensures.fits) c.in-Err.why c.in-Err.ensures.holding

pub admit_from_true_pool-requires-clause-true_pool : goal.admit_from_true_pool-requires-clause-true_pool
admit_from_true_pool-requires-clause-true_pool c = true_inside (the_view c.self.inside) c.args.self.now c.self.view_is c.requires.true_pool
