use Rattle.std.proofs.Common.{length}
use Rattle.sm_plan_code.specs.Plan.{IsKnownStream}
use Rattle.sm_verifier.proofs.Growth.{all_at}
use Rattle.sm_verifier.proofs.downs.down_of.Goals as goal

pub down_in-lowest-requires : goal.down_in-lowest-requires
down_in-lowest-requires c =
    let fits = all_at (IsKnownStream (length c.args.placement.now.setup.shards) (length c.args.placement.now.setup.servers)) c.args.streams.now c.loop-stream.stream-index c.stream-item.result c.requires c.loop-stream-test.true c.stream-item.is in
    rw c.as_slice.ensures.value (rw (← c.stream.view_is) at fits).code
