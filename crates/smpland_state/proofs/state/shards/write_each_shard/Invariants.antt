use Rattle.std.proofs.Common.{◌≡◌, ◌++◌}
use Rattle.std.specs.List.{flat_map, range_with_len}
use Rattle.smpland_state.specs.State.{shard_state}
use Rattle.smpland_state.proofs.state.shards.write_each_shard.Given as goal

-- the shards so far
abbrev pub invariant-loop-number : goal.invariant-loop-number
invariant-loop-number l = l.writer.tokens ≡ l.initial.writer.tokens ++ flat_map (shard_state l.opened.driver) (range_with_len 0 l.number)
