use Rattle.std.proofs.Common.{sym, subst}
use Rattle.sm_placement.specs.Layout.{place_of}
use Rattle.sm_placement.specs.Setup.{sizes_of}
use Rattle.sm_reservation.specs.Pool.{pool_hold}
use Rattle.sm_verifier.specs.Admission.{IsAdmitted}
use Rattle.sm_planner.proofs.planner.checked.Goals as goal

pub returns-in-Ok-clause-admitted : goal.returns-in-Ok-clause-admitted
returns-in-Ok-clause-admitted c =
    subst (λ p. IsAdmitted (sizes_of c.args.placement.now.setup) (place_of c.args.placement.now) (pool_hold c.args.pool.now) p) (sym c.in-Ok.ensures.checked)
    c.requires.admitted
