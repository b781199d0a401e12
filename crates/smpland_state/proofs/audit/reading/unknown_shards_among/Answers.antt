use Rattle.smpland_state.proofs.Audited.{unknown_shards_more}
use Rattle.smpland_state.proofs.audit.reading.unknown_shards_among.Goals as goal

-- Those of the slots so far, and the next if it is one.
pub loop-slot-preserved : goal.loop-slot-preserved
loop-slot-preserved c =
    unknown_shards_more c.args.config.now c.args.slots.now c.loop-slot.slot-index _ c.loop-slot.unknown_shards.items c.push_if_unknown_shard.new.unknown_shards.items c.loop-slot-test.true
    c.loop-slot.invariant c.in_ok-push_if_unknown_shard.ensures
