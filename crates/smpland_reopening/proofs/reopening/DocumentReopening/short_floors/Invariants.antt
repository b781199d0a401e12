use Rattle.std.proofs.Common.{◌≡◌, map, take}
use Rattle.std.specs.List.{filter}
use Rattle.smpland_reopening.specs.Proposed.{is_unmet, live_and_floor}
use Rattle.smpland_reopening.specs.RoleGrids.{role_at}
use Rattle.smpland_reopening.proofs.reopening.DocumentReopening.short_floors.Given as goal

-- the shards so far
abbrev pub invariant-loop-shard : goal.invariant-loop-shard
invariant-loop-shard l = l.short.items ≡ filter is_unmet (map (live_and_floor l.self (role_at l.roles)) (take l.shard-index l.shards))
