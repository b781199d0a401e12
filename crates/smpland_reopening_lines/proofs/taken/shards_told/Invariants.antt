use Rattle.std.proofs.Common.{◌≡◌, map, take}
use Rattle.smpland_reopening_lines.specs.Taken.{shard_told}
use Rattle.smpland_reopening_lines.proofs.taken.shards_told.Given as goal

-- the names so far
abbrev pub invariant-loop-name : goal.invariant-loop-name
invariant-loop-name l = l.shards.items ≡ map (shard_told l.numbering) (take l.name-index l.names)
