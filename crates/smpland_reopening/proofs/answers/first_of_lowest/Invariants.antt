use Rattle.std.proofs.Common.{option_map, take}
use Rattle.smpland_reopening.specs.Unknown.{IsFirstUnknown}
use Rattle.smpland_reopening.proofs.answers.first_of_lowest.Given as goal

-- of the shards so far
abbrev pub invariant-loop-unknown_shard : goal.invariant-loop-unknown_shard
invariant-loop-unknown_shard l = IsFirstUnknown (take l.unknown_shard-index l.unknown_shards) (option_map (λ first. first.now) l.first)
