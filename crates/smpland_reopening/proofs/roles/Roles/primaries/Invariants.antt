use Rattle.std.proofs.Common.{◌≡◌, map}
use Rattle.std.specs.List.{range_with_len}
use Rattle.smpland_reopening.specs.RoleGrids.{role_at}
use Rattle.smpland_reopening.specs.Settled.{primary_by}
use Rattle.smpland_reopening.proofs.roles.Roles.primaries.Given as goal

-- those of the shards so far
abbrev pub invariant-loop-shard : goal.invariant-loop-shard
invariant-loop-shard l = l.primaries.items ≡ map (primary_by l.self.servers (role_at l.self)) (range_with_len 0 l.shard)
