use Rattle.std.proofs.Common.{length}
use Rattle.sm_planner.specs.Accounts.{is_left}
use Rattle.sm_planner.proofs.Firsts.{IsLeft}
use Rattle.sm_planner.proofs.placing.Placing.first_left.Given as goal

-- the first one is among those still to come
abbrev pub invariant-loop-i : goal.invariant-loop-i
invariant-loop-i l = IsLeft (is_left l.self.marks.items) l.i (length l.moves)
