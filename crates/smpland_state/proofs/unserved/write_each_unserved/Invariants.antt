use Rattle.std.proofs.Common.{◌≡◌, ◌++◌}
use Rattle.std.specs.List.{flat_map, range_with_len}
use Rattle.sm_placement.specs.Layout.{place_of}
use Rattle.smpland_state.specs.Unserved.{unserved_text}
use Rattle.smpland_state.proofs.unserved.write_each_unserved.Given as goal

-- the shards so far
abbrev pub invariant-loop-shard : goal.invariant-loop-shard
invariant-loop-shard l =
    l.writer.tokens
    ≡ l.initial.writer.tokens ++ flat_map (unserved_text l.placement.setup (place_of l.placement) l.server) (range_with_len 0 l.shard)
