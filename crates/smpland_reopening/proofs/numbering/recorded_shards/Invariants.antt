use Rattle.std.proofs.Common.{◌≡◌, map, take}
use Rattle.sm_placement.specs.Config.{shard_names, shard_row}
use Rattle.sm_placement.specs.Setup.{names_of_shards}
use Rattle.smpland_reopening.specs.Numbers.{shard_as_documented}
use Rattle.smpland_reopening.proofs.numbering.recorded_shards.Given as goal

-- the shards so far have their names, and are as the document has them
abbrev pub invariant-loop-number : goal.invariant-loop-number
invariant-loop-number l = record {
  names : shard_names l.rows.items ≡ take l.number (names_of_shards l.recorded);
  rows : map shard_row l.rows.items ≡ map (shard_as_documented l.document) (take l.number l.recorded.shards);
}
