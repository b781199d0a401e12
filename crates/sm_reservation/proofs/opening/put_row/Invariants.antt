use Rattle.std.proofs.Common.{◌≡◌, None}
use Rattle.sm_placement.specs.Sums.{put}
use Rattle.sm_placement.specs.Setup.{sizes_of}
use Rattle.sm_placement.specs.Layout.{place_of}
use Rattle.sm_reservation.specs.Pool.{pool_hold, true_rights, SameSize}
use Rattle.sm_reservation.proofs.OpeningLemmas.{IsDoneTo}
use Rattle.sm_reservation.proofs.opening.put_row.Given as goal

-- the shard's row is done up to here, and nothing else is changed
abbrev pub invariant-loop-number : goal.invariant-loop-number
invariant-loop-number l = record {
  row : IsDoneTo ((pool_hold l.pool).cells l.shard) ((true_rights (sizes_of l.placement.setup) (place_of l.placement)).cells l.shard) l.number None;
  frame : pool_hold l.pool ≡ record (pool_hold l.fn.pool) { cells = put (pool_hold l.fn.pool).cells l.shard ((pool_hold l.pool).cells l.shard) };
  size : SameSize l.fn.pool l.pool;
}
