use Rattle.std.proofs.Common.{◌≡◌}
use Rattle.sm_placement.specs.Setup.{sizes_of}
use Rattle.sm_placement.specs.Layout.{place_of}
use Rattle.sm_reservation.specs.Pool.{pool_hold, true_rights, SameSize}
use Rattle.sm_reservation.proofs.OpeningLemmas.{IsDoneTo}
use Rattle.sm_reservation.proofs.opening.put_rooms.Given as goal

-- the servers are done up to here, and nothing else is changed
abbrev pub invariant-loop-number : goal.invariant-loop-number
invariant-loop-number l = record {
  done : IsDoneTo (pool_hold l.pool).room (true_rights (sizes_of l.placement.setup) (place_of l.placement)).room l.number 0;
  frame : pool_hold l.pool ≡ record (pool_hold l.fn.pool) { room = (pool_hold l.pool).room };
  size : SameSize l.fn.pool l.pool;
}
