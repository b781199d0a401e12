use Rattle.std.proofs.Common.{◌≡◌}
use Rattle.std.specs.List.{list_any, range_with_len}
use Rattle.smpland_state.specs.Audit.{is_shard_ahead}
use Rattle.smpland_state.proofs.audit.Audit.some_shard_ahead.Given as goal

-- some of the shards so far
abbrev pub invariant-loop-number : goal.invariant-loop-number
invariant-loop-number l =
    l.found ≡ list_any (is_shard_ahead l.self.opened.now.driver l.self.told.items l.self.streams.items) (range_with_len 0 l.number)
