use Rattle.std.proofs.Common.{◌≡◌, None}
use Rattle.sm_placement.specs.Setup.{sizes_of}
use Rattle.sm_placement.specs.Layout.{place_of}
use Rattle.sm_reservation.specs.Pool.{pool_hold, true_rights, SameSize}
use Rattle.sm_reservation.proofs.OpeningLemmas.{IsDoneTo}
use Rattle.sm_reservation.proofs.opening.put_cells.Given as goal

-- the rows are done up to here, and nothing else is changed
abbrev pub invariant-loop-number : goal.invariant-loop-number
invariant-loop-number l = record {
  done : IsDoneTo (pool_hold l.pool).cells (true_rights (sizes_of l.placement.setup) (place_of l.placement)).cells l.number (λ v. None);
  frame : pool_hold l.pool ≡ record (pool_hold l.fn.pool) { cells = (pool_hold l.pool).cells };
  size : SameSize l.fn.pool l.pool;
}
