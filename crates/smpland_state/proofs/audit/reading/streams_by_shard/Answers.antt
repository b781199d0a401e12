use Rattle.std.proofs.Common.{arith, length}
use Rattle.smpland_state.specs.Audit.{is_order_to}
use Rattle.smpland_state.proofs.Audited.{put_all, put_next}
use Rattle.smpland_state.proofs.audit.reading.streams_by_shard.Goals as goal

-- The streams so far, and the next.
pub loop-id-preserved : goal.loop-id-preserved
loop-id-preserved c =
    put_next (is_order_to c.args.driver.now c.args.server) _ c.loop-id.id-index (length c.args.driver.now.machine.placement.setup.shards) _
    c.loop-id.streams.items c.put_stream.new.items.items c.loop-id-test.true c.loop-id.invariant c.put_stream.ensures.count c.put_stream.ensures.put

pub returns : goal.returns
returns c =
    rw (c.as_slice-id-items.ensures.value, c.in_ok-awaiting.ensures) at (
    put_all (is_order_to c.args.driver.now c.args.server) c.as_slice-id-items.result.now c.loop-id.id-index (length c.args.driver.now.machine.placement.setup.shards)
    c.loop-id.streams.items (omega (arith, c.loop-id-test.false)) c.loop-id.invariant)
