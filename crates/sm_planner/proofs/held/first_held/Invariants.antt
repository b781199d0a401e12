use Rattle.std.proofs.Common.{length}
use Rattle.sm_placement.specs.Layout.{place_of}
use Rattle.sm_reservation.specs.Pool.{pool_hold}
use Rattle.sm_planner.specs.Basis.{basis}
use Rattle.sm_planner.specs.Refusal.{is_closed}
use Rattle.sm_planner.proofs.Firsts.{IsLeft}
use Rattle.sm_planner.proofs.held.first_held.Given as goal

-- the first one is among those still to come
abbrev pub invariant-loop-i : goal.invariant-loop-i
invariant-loop-i l = IsLeft (is_closed (basis l.placement.setup (place_of l.placement) (pool_hold l.pool)) l.moves) l.i (length l.moves)
