use Rattle.std.proofs.Common.{◌≡◌, take}
use Rattle.std.specs.List.{flat_map}
use Rattle.sm_placement.specs.Layout.{place_of}
use Rattle.sm_planner.specs.Basis.{move_at}
use Rattle.sm_planner.specs.Plan.{cells_needed}
use Rattle.sm_planner.proofs.writing.cells_of.Given as goal

abbrev pub invariant-loop-k : goal.invariant-loop-k
invariant-loop-k l = l.cells.items ≡ flat_map (λ k. cells_needed (place_of l.placement) (move_at l.draft.moves.items k)) (take l.k-index l.numbers)
