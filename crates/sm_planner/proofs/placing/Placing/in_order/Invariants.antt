use Rattle.std.proofs.Common.{◌≡◌, map, take}
use Rattle.sm_planner.specs.Basis.{move_at}
use Rattle.sm_planner.proofs.placing.Placing.in_order.Given as goal

abbrev pub invariant-loop-i : goal.invariant-loop-i
invariant-loop-i l = l.order.items ≡ map (move_at l.moves) (take l.i-index l.self.placed.items)
