use Rattle.std.proofs.Common.{length}
use Rattle.smpland_state.specs.Audit.{is_slot_of}
use Rattle.smpland_state.proofs.Audited.{HasLast}
use Rattle.smpland_state.proofs.audit.reading.slots_by_shard.Given as goal

-- there is a place for each shard, with the last of the slots so far
abbrev pub invariant-loop-slot : goal.invariant-loop-slot
invariant-loop-slot l = HasLast (is_slot_of l.config) l.slots l.slot-index (length l.config.shards) l.told.items
