use Rattle.std.proofs.Common.{◌≡◌, ◌++◌}
use Rattle.std.specs.List.{flat_map, range_with_len}
use Rattle.sm_placement.specs.Layout.{place_of}
use Rattle.smpland_state.specs.Document.{replica_row}
use Rattle.smpland_state.proofs.document.write_each_replica_row.Given as goal

-- the servers so far
abbrev pub invariant-loop-number : goal.invariant-loop-number
invariant-loop-number l =
    l.writer.tokens
    ≡ l.initial.writer.tokens ++ flat_map (replica_row l.placement.setup ((place_of l.placement).cells l.shard)) (range_with_len 0 l.number)
