use Rattle.std.proofs.Common.{◌≡◌, ◌++◌, map, take}
use Rattle.std.specs.List.{filter}
use Rattle.sm_placement.specs.Config.{shard_names, shard_row}
use Rattle.sm_placement.specs.Setup.{names_of_shards}
use Rattle.smpland_reopening.specs.Numbers.{AreNumberedBelow, KeepsNames, is_new_shard, shard_as_documented}
use Rattle.smpland_reopening.proofs.numbering.number_shards.Given as goal

-- what was recorded keeps its numbers, and the document's shards so far have theirs
abbrev pub invariant-loop-place : goal.invariant-loop-place
invariant-loop-place l = record {
  kept : KeepsNames (names_of_shards l.recorded) (shard_names l.rows.items);
  numbered : AreNumberedBelow l.place (shard_names l.rows.items) l.numbers.items (names_of_shards l.document);
  rows : map shard_row l.rows.items ≡ map (shard_as_documented l.document) l.recorded.shards ++ filter (is_new_shard l.recorded) (take l.place l.document.shards);
}
