use Rattle.smpland_reopening.specs.Roles.{NamesRoles}
use Rattle.smpland_reopening.specs.RoleGrids.{role_at}
use Rattle.smpland_reopening.proofs.roles.Roles.name_cells.Given as goal

-- the servers so far are done
abbrev pub invariant-loop-number : goal.invariant-loop-number
invariant-loop-number l = NamesRoles (role_at l.self) l.shard l.number l.cells.items
