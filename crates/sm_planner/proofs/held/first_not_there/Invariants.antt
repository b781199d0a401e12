use Rattle.std.proofs.Common.{◌≡◌, drop}
use Rattle.sm_placement.specs.Layout.{place_of}
use Rattle.sm_planner.specs.Refusal.{first_not_there}
use Rattle.sm_planner.proofs.held.first_not_there.Given as goal

-- the first one is among those still to come
abbrev pub invariant-loop-wanted : goal.invariant-loop-wanted
invariant-loop-wanted l = first_not_there (place_of l.placement) (drop l.wanted-index l.moves) ≡ first_not_there (place_of l.placement) l.moves
