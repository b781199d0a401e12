use Rattle.std.proofs.Common.{◌≡◌, ◌<◌, ℕ, Some, take}
use Rattle.smpland_reopening.specs.Chosen.{role_given, roles_with}
use Rattle.smpland_reopening.specs.RoleGrids.{role_at}
use Rattle.smpland_reopening.proofs.roles.Roles.fill.Given as goal

-- the shard has the replicas so far, and there are as many roles
abbrev pub invariant-loop-server : goal.invariant-loop-server
invariant-loop-server l = record {
  shards : l.self.shards ≡ l.fn.self.shards;
  servers : l.self.servers ≡ l.fn.self.servers;
  roles : (s v : ℕ) → s < l.fn.self.shards → v < l.fn.self.servers
      → role_at l.self s v ≡ roles_with (role_at l.fn.self) (Some l.shard) (role_given l.servers (take l.server-index l.replicas)) s v;
}
