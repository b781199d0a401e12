use Rattle.std.proofs.Common.{◌≡◌, drop}
use Rattle.sm_placement.specs.Layout.{place_of}
use Rattle.sm_planner.specs.Rights.{is_forestalled}
use Rattle.sm_planner.proofs.held.is_forestalled.Given as goal

-- those so far need none of the move's rights
abbrev pub invariant-loop-other : goal.invariant-loop-other
invariant-loop-other l = is_forestalled (place_of l.placement) (drop l.other-index l.earlier) l.wanted ≡ is_forestalled (place_of l.placement) l.earlier l.wanted
