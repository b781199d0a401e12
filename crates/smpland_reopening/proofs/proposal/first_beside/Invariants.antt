use Rattle.std.proofs.Common.{take}
use Rattle.smpland_reopening.proofs.Named.{AreAmong}
use Rattle.smpland_reopening.proofs.proposal.first_beside.Given as goal

-- the shards so far are among the others
abbrev pub invariant-loop-shard : goal.invariant-loop-shard
invariant-loop-shard l = AreAmong (take l.shard-index l.shards) l.others
