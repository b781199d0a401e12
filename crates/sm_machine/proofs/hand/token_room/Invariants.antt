use Rattle.std.proofs.Common.{◌≡◌, ℕ, ◌<◌, ◌≤◌, ◌^◌, Some, None, take, get_or}
use Rattle.std.specs.List.{sum_by}
use Rattle.sm_placement.specs.Setup.{sizes_of}
use Rattle.sm_verifier.specs.Checked.{CheckedModel}
use Rattle.sm_protocol.specs.Laws.{IsCheckedPlan}
use Rattle.sm_machine.specs.Hand.{token_count}
use Rattle.sm_machine.proofs.hand.token_room.Given as goal

-- the plans so far give no more, and each was checked
abbrev pub invariant-loop-plan : goal.invariant-loop-plan
invariant-loop-plan l = record {
  room : l.room < 2 ^ 63 → sum_by token_count (take l.plan-index l.plans) ≤ l.room;
  checked : (k : ℕ) (p : CheckedModel) → k < l.plan-index → get_or l.plans k None ≡ Some p → IsCheckedPlan (sizes_of p.setup) p.plan;
}
