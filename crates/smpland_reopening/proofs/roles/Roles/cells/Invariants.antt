use Rattle.smpland_reopening.specs.Roles.{NamesRoles}
use Rattle.smpland_reopening.specs.RoleGrids.{role_at}
use Rattle.smpland_reopening.proofs.roles.Roles.cells.Given as goal

-- the shards so far are done
abbrev pub invariant-loop-shard : goal.invariant-loop-shard
invariant-loop-shard l = NamesRoles (role_at l.self) l.shard 0 l.cells.items
