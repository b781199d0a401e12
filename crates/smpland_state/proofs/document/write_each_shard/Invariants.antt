use Rattle.std.proofs.Common.{◌≡◌, ◌++◌}
use Rattle.std.specs.List.{flat_map, range_with_len}
use Rattle.sm_placement.specs.Layout.{place_of}
use Rattle.smpland_state.specs.Document.{document_shard}
use Rattle.smpland_state.proofs.document.write_each_shard.Given as goal

-- the shards so far
abbrev pub invariant-loop-number : goal.invariant-loop-number
invariant-loop-number l =
    l.writer.tokens
    ≡ l.initial.writer.tokens ++ flat_map (document_shard l.placement.setup (place_of l.placement)) (range_with_len 0 l.number)
