use Rattle.std.proofs.Common.{arith, length}
use Rattle.smpland_state.specs.Audit.{is_slot_of}
use Rattle.smpland_state.proofs.Audited.{put_all, put_next}
use Rattle.smpland_state.proofs.audit.reading.slots_by_shard.Goals as goal

-- The slots so far, and the next.
pub loop-slot-preserved : goal.loop-slot-preserved
loop-slot-preserved c =
    put_next (is_slot_of c.args.config.now) c.args.slots.now c.loop-slot.slot-index (length c.args.config.now.shards) _ c.loop-slot.told.items
    c.put_slot.new.items.items c.loop-slot-test.true c.loop-slot.invariant c.put_slot.ensures.count c.put_slot.ensures.put

pub returns : goal.returns
returns c =
    put_all (is_slot_of c.args.config.now) c.args.slots.now c.loop-slot.slot-index (length c.args.config.now.shards) c.loop-slot.told.items
    (omega (arith, c.loop-slot-test.false)) c.loop-slot.invariant
