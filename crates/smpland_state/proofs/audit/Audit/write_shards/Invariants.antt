use Rattle.std.proofs.Common.{◌≡◌, ◌++◌, take}
use Rattle.std.specs.List.{flat_map}
use Rattle.smpland_state.specs.Audit.{shard_difference}
use Rattle.smpland_state.proofs.audit.Audit.write_shards.Given as goal

-- those of the shards so far
abbrev pub invariant-loop-shard : goal.invariant-loop-shard
invariant-loop-shard l =
    l.writer.tokens
    ≡ l.initial.writer.tokens
    ++ flat_map (shard_difference l.self.opened.now.driver l.self.server l.self.told.items) (take l.shard-index l.shards)
