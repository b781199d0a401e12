use Rattle.std.proofs.Common.{◌≡◌, drop}
use Rattle.sm_placement.specs.Setup.{sizes_of}
use Rattle.sm_placement.specs.Layout.{place_of}
use Rattle.sm_reservation.specs.Pool.{true_rights}
use Rattle.sm_verifier.specs.Finding.{holds_cell, first_cell}
use Rattle.sm_verifier.proofs.truth.untrue_cell.Given as goal

-- the first one is among those still to come
abbrev pub invariant-loop-right : goal.invariant-loop-right
invariant-loop-right l =
    first_cell (holds_cell (true_rights (sizes_of l.placement.setup) (place_of l.placement))) (drop l.right-index l.cells)
    ≡ first_cell (holds_cell (true_rights (sizes_of l.placement.setup) (place_of l.placement))) l.cells
