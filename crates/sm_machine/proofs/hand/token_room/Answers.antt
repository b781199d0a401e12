-- The plans of a hand, one after the other.
use Rattle.std.proofs.Common.{arith}
use Rattle.sm_machine.proofs.HandPlays.{plans_more, plans_all, tokens_more}
use Rattle.sm_machine.proofs.hand.token_room.Goals as goal

pub loop-plan-preserved : goal.loop-plan-preserved
loop-plan-preserved c = record {
  room = tokens_more c.args.plans.now c.loop-plan.plan-index c.loop-plan.room c.saturating_add-room.result c.plan-item.result c.plan-item.is (omega arith) (rw (← c.token_count.ensures.count) c.saturating_add-room.ensures) c.loop-plan.invariant.room;
  checked = plans_more c.args.plans.now c.loop-plan.plan-index c.plan-item.result c.plan-item.is (omega arith) c.loop-plan.invariant.checked c.token_count.ensures.checked;
}

pub returns-clause-checked : goal.returns-clause-checked
returns-clause-checked c = plans_all c.args.plans.now c.loop-plan.plan-index (omega arith) c.loop-plan.invariant.checked
