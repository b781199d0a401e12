use Rattle.std.proofs.Common.{take, drop, arith}
use Rattle.sm_reservation.proofs.MergeLemmas.{shift_turn}
use Rattle.sm_reservation.proofs.merge.close_gap.Goals as goal

pub loop-count-preserved : goal.loop-count-preserved
loop-count-preserved g c =
    let t = shift_turn c.loop-count.rows.items (take c.args.write c.args.rows.now.items) (drop c.args.read c.args.rows.now.items) c.args.write c.args.read c.loop-count.count c.index.result.now (omega arith) (omega arith) c.loop-count.invariant.done c.loop-count.invariant.rest c.index.ensures in
    record { done = t.1; rest = t.2; within = omega arith; len = c.loop-count.invariant.len; capacity = c.loop-count.invariant.capacity }
