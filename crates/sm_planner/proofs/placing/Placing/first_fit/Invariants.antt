use Rattle.std.proofs.Common.{◌≡◌, length}
use Rattle.sm_planner.specs.Accounts.{is_next, ArePassedOver}
use Rattle.sm_planner.proofs.Firsts.{IsLeft}
use Rattle.sm_planner.proofs.placing.Placing.first_fit.Given as goal

-- the first one is among those still to come, and the others are passed over
abbrev pub invariant-loop-i : goal.invariant-loop-i
invariant-loop-i l = record {
  left : IsLeft (is_next l.config l.moves l.self.marks.items l.self.room) l.i (length l.moves);
  wide : length l.awaited ≡ length l.initial.awaited;
  before : ArePassedOver l.config l.moves l.self.marks.items l.self.room l.awaited l.i;
}
