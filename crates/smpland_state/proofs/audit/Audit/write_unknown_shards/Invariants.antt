use Rattle.std.proofs.Common.{◌≡◌, ◌++◌, take}
use Rattle.std.specs.List.{flat_map}
use Rattle.smpland_state.specs.Audit.{unknown_shard_difference}
use Rattle.smpland_state.proofs.audit.Audit.write_unknown_shards.Given as goal

-- those of the slots so far
abbrev pub invariant-loop-slot : goal.invariant-loop-slot
invariant-loop-slot l =
    l.writer.tokens
    ≡ l.initial.writer.tokens
    ++ flat_map (unknown_shard_difference l.self.opened.now.driver.machine.placement.setup) (take l.slot-index l.self.unknown_shards.items)
