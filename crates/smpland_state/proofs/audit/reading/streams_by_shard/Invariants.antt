use Rattle.std.proofs.Common.{length}
use Rattle.smpland_state.specs.Audit.{is_order_to}
use Rattle.smpland_state.proofs.Audited.{HasLast}
use Rattle.smpland_state.proofs.audit.reading.streams_by_shard.Given as goal

-- there is a place for each shard, with the last of the streams so far
abbrev pub invariant-loop-id : goal.invariant-loop-id
invariant-loop-id l = HasLast (is_order_to l.driver l.server) l.id-items l.id-index (length l.driver.machine.placement.setup.shards) l.streams.items
