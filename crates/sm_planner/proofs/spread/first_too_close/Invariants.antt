use Rattle.std.proofs.Common.{length}
use Rattle.sm_placement.specs.Layout.{place_of}
use Rattle.sm_planner.specs.Spread.{is_too_close}
use Rattle.sm_planner.proofs.Firsts.{IsLeft}
use Rattle.sm_planner.proofs.spread.first_too_close.Given as goal

-- the first one is among those still to come
abbrev pub invariant-loop-number : goal.invariant-loop-number
invariant-loop-number l = IsLeft (is_too_close l.placement.setup (place_of l.placement) l.moves) l.number (length l.placement.setup.shards)
