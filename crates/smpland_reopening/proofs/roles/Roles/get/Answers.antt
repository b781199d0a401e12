-- Roles are read by shard and server.
use Rattle.std.proofs.Common.{◌∙◌, None, sym, arith}
use Rattle.sm_placement.proofs.GridLemmas.{grid_of-beside, grid_of-within}
use Rattle.smpland_reopening.proofs.roles.Roles.get.Goals as goal

pub returns-then-server-self : goal.returns-then-server-self
returns-then-server-self c = sym (grid_of-beside c.args.self.now.servers None c.args.self.now.list.items c.args.shard c.args.server (omega arith))

pub returns : goal.returns
returns c = c.at.ensures ∙ sym (grid_of-within c.args.self.now.servers None c.args.self.now.list.items c.args.shard c.args.server (omega arith))
