use Rattle.std.proofs.Common.{◌≡◌, drop}
use Rattle.sm_reservation.specs.Pool.{pool_hold}
use Rattle.sm_verifier.specs.Finding.{is_free_cell, first_cell}
use Rattle.sm_verifier.proofs.free.taken_cell.Given as goal

-- the first one is among those still to come
abbrev pub invariant-loop-right : goal.invariant-loop-right
invariant-loop-right l =
    first_cell (is_free_cell (pool_hold l.pool) l.earlier) (drop l.right-index l.cells) ≡ first_cell (is_free_cell (pool_hold l.pool) l.earlier) l.cells
