use Rattle.sm_placement.specs.Setup.{sizes_of}
use Rattle.sm_placement.specs.Layout.{place_of}
use Rattle.sm_reservation.specs.Pool.{pool_hold}
use Rattle.sm_task_controller.proofs.Spares.{IsLeft}
use Rattle.sm_task_controller.proofs.decision.first_without_spare.Given as goal

abbrev pub invariant-loop-number : goal.invariant-loop-number
invariant-loop-number l = IsLeft (sizes_of l.placement.setup) (place_of l.placement) (pool_hold l.pool) l.server l.number
