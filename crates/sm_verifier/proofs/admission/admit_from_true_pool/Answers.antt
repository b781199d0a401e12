use Rattle.std.proofs.Common.{◌≡◌, false, ap, ◌∙◌}
use Rattle.std.specs.Prelude.{is_some}
use Rattle.sm_placement.specs.Layout.{place_of}
use Rattle.sm_reservation.specs.Pool.{pool_hold}
use Rattle.sm_plan_code.specs.Plan.{PlanModel}
use Rattle.sm_verifier.proofs.TruePool.{true_where_none}
use Rattle.sm_verifier.proofs.admission.admit_from_true_pool.Goals as goal

pub admit_free-requires-clause-true_ones : goal.admit_free-requires-clause-true_ones
admit_free-requires-clause-true_ones c =
    let none : is_some c.first_taken.result ≡ false = cc in
    true_where_none (pool_hold c.args.pool.now) (place_of c.args.placement.now) c.args.placement.now.setup c.args.checked.now.setup c.requires.setup c.requires.true_pool
    c.first_taken.result none c.streams.result.now c.args.checked.now.plan.streams (c.streams.ensures.value ∙ ap (λ (p : PlanModel). p.streams) c.plan.ensures.value) c.first_taken.ensures.none
