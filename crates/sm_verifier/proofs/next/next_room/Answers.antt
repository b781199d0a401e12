use Rattle.sm_verifier.proofs.NextNumbers.{next_room_with}
use Rattle.sm_verifier.proofs.next.next_room.Goals as goal

pub loop-stream-preserved : goal.loop-stream-preserved
loop-stream-preserved c =
    next_room_with c.args.streams.now c.loop-stream.stream-index c.stream-item.result _ c.args.from c.loop-stream.next c.next_row.result c.lower-next.result c.room.result.now
    c.loop-stream-test.true c.stream-item.is c.stream.view_is c.room.ensures.value c.room.ensures.order c.room.ensures.positive c.loop-stream.invariant c.next_row.ensures c.lower-next.ensures
