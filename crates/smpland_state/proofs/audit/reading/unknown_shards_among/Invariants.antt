use Rattle.std.proofs.Common.{◌≡◌, take}
use Rattle.std.specs.List.{filter}
use Rattle.smpland_state.specs.Audit.{is_unknown_shard}
use Rattle.smpland_state.proofs.audit.reading.unknown_shards_among.Given as goal

-- those of the slots so far
abbrev pub invariant-loop-slot : goal.invariant-loop-slot
invariant-loop-slot l = l.unknown_shards.items ≡ filter (is_unknown_shard l.config) (take l.slot-index l.slots)
