use Rattle.sm_verifier.proofs.NextNumbers.{next_spare_with}
use Rattle.sm_verifier.proofs.next.next_spare.Goals as goal

pub loop-stream-preserved : goal.loop-stream-preserved
loop-stream-preserved c =
    next_spare_with c.args.streams.now c.loop-stream.stream-index c.stream-item.result _ c.args.from c.loop-stream.next c.next_row.result c.lower-next.result c.spare.result.now
    c.loop-stream-test.true c.stream-item.is c.stream.view_is c.spare.ensures.value c.spare.ensures.order c.spare.ensures.positive c.loop-stream.invariant c.next_row.ensures c.lower-next.ensures
