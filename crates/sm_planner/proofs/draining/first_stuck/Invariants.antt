use Rattle.std.proofs.Common.{length}
use Rattle.std.specs.Prelude.{not}
use Rattle.sm_placement.specs.Layout.{place_of}
use Rattle.sm_reservation.specs.Pool.{pool_hold}
use Rattle.sm_planner.specs.Basis.{basis}
use Rattle.sm_planner.specs.Drain.{may_leave}
use Rattle.sm_planner.proofs.Firsts.{IsLeft}
use Rattle.sm_planner.proofs.draining.first_stuck.Given as goal

-- the first one is among those still to come
abbrev pub invariant-loop-number : goal.invariant-loop-number
invariant-loop-number l = IsLeft (λ s. not (may_leave (basis l.placement.setup (place_of l.placement) (pool_hold l.pool)) l.server s)) l.number (length l.placement.setup.shards)
