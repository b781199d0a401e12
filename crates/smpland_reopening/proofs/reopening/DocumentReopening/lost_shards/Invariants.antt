use Rattle.std.proofs.Common.{◌≡◌}
use Rattle.std.specs.List.{filter, range_with_len}
use Rattle.smpland_reopening.specs.Proposal.{names_shard}
use Rattle.smpland_reopening.proofs.reopening.DocumentReopening.lost_shards.Given as goal

-- the shards so far
abbrev pub invariant-loop-number : goal.invariant-loop-number
invariant-loop-number l = l.lost.items ≡ filter (names_shard l.self) (range_with_len 0 l.number)
