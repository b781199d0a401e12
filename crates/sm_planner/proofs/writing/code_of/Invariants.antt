use Rattle.std.proofs.Common.{◌≡◌, take}
use Rattle.std.specs.List.{flat_map}
use Rattle.sm_placement.specs.Layout.{place_of}
use Rattle.sm_planner.specs.Plan.{drafted_code}
use Rattle.sm_planner.proofs.writing.code_of.Given as goal

abbrev pub invariant-loop-k : goal.invariant-loop-k
invariant-loop-k l = l.code.items ≡ flat_map (drafted_code (place_of l.placement) l.draft.moves.items l.draft.signals.items) (take l.k-index l.numbers)
