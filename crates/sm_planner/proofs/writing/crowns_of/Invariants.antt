use Rattle.std.proofs.Common.{◌≡◌, take}
use Rattle.std.specs.List.{flat_map}
use Rattle.sm_placement.specs.Layout.{place_of}
use Rattle.sm_planner.specs.Basis.{move_at}
use Rattle.sm_planner.specs.Plan.{crowns_of}
use Rattle.sm_planner.proofs.writing.crowns_of.Given as goal

abbrev pub invariant-loop-k : goal.invariant-loop-k
invariant-loop-k l = l.crowns.items ≡ flat_map (λ k. crowns_of (place_of l.placement) (move_at l.draft.moves.items k)) (take l.k-index l.numbers)
