use Rattle.sm_planner.specs.Stretches.{handed_to}
use Rattle.sm_planner.proofs.Ranges.{range_joined}
use Rattle.sm_planner.proofs.payment.signals.Goals as goal

pub loop-k-preserved : goal.loop-k-preserved
loop-k-preserved c = range_joined (handed_to c.args.order.now) c.loop-k.signals.items c.put_handed.new.signals.items c.loop-k.k c.in_ok-put_handed.ensures c.loop-k.invariant
