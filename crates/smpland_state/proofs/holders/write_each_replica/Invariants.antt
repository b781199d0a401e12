use Rattle.std.proofs.Common.{◌≡◌, ◌++◌}
use Rattle.std.specs.List.{flat_map, range_with_len}
use Rattle.sm_placement.specs.Layout.{place_of}
use Rattle.smpland_state.specs.Messages.{replica_text}
use Rattle.smpland_state.proofs.holders.write_each_replica.Given as goal

-- the servers so far
abbrev pub invariant-loop-server : goal.invariant-loop-server
invariant-loop-server l =
    l.writer.tokens ≡ l.initial.writer.tokens
    ++ flat_map (replica_text l.placement.setup ((place_of l.placement).cells l.shard)) (range_with_len 0 l.server)
