use Rattle.std.proofs.Common.{◌≡◌, ◌≤◌, length}
use Rattle.std.specs.Prelude.{count_by, not}
use Rattle.sm_planner.specs.Basis.{basis_of}
use Rattle.sm_planner.specs.Accounts.{ArePassedOver}
use Rattle.sm_planner.proofs.Accounting.{IsKept}
use Rattle.sm_planner.proofs.placing.place_all.Given as goal

-- the marks and the room are those of the moves placed so far, and the moves before the start are passed over
abbrev pub invariant-loop-i : goal.invariant-loop-i
invariant-loop-i l = record {
  kept : IsKept (basis_of l.placement l.pool) l.moves l.placing.placed.items l.placing.marks.items l.placing.room;
  wide : length l.awaited ≡ length l.placement.setup.servers;
  within : l.start ≤ length l.moves;
  before : ArePassedOver l.placement.setup l.moves l.placing.marks.items l.placing.room l.awaited l.start;
}

-- how many moves are not placed yet
abbrev pub decreases-loop-i : goal.decreases-loop-i
decreases-loop-i l = count_by not l.placing.marks.items
