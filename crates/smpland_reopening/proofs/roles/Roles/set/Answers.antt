-- A write changes the role of its pair alone.
use Rattle.std.proofs.Common.{None}
use Rattle.sm_placement.proofs.GridLemmas.{grid_of-set, place_within}
use Rattle.smpland_reopening.proofs.roles.Roles.set.Goals as goal

pub returns-clause-roles : goal.returns-clause-roles
returns-clause-roles c =
    let roles = c.args.self.now in
    grid_of-set roles.servers None roles.list.items c.args.shard c.args.server c.args.role c.requires.server
    (place_within roles.list.items roles.servers roles.shards c.args.shard c.args.server roles.full c.requires.shard c.requires.server)
