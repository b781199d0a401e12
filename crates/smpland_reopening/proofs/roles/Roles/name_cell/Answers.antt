-- A role is named by its shard and its server.
use Rattle.std.proofs.Common.{◌∙◌, ap}
use Rattle.smpland_reopening.specs.Roles.{cell_by_role}
use Rattle.smpland_reopening.specs.RoleGrids.{role_at}
use Rattle.smpland_reopening.proofs.Naming.{names_some}
use Rattle.smpland_reopening.proofs.roles.Roles.name_cell.Goals as goal

pub returns-in_ok-push : goal.returns-in_ok-push
returns-in_ok-push c =
    names_some (role_at c.args.self.now) c.args.shard c.args.server c.args.cells.now.items c.push.new.self.items (c.new.result, c.new-in-Some.result, c.cell_of.result) c.requires
    c.in_ok-push.ensures.items c.new.ensures c.new-in-Some.ensures (c.cell_of.ensures ∙ ap cell_by_role (c.in-Some.ensures))
