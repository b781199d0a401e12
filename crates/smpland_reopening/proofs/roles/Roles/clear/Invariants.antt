use Rattle.std.proofs.Common.{◌≡◌, ◌<◌, ℕ, None}
use Rattle.smpland_reopening.specs.RoleGrids.{role_at}
use Rattle.smpland_reopening.proofs.Chosen.{filled}
use Rattle.smpland_reopening.proofs.roles.Roles.clear.Given as goal

-- the servers so far have none, and there are as many
abbrev pub invariant-loop-number : goal.invariant-loop-number
invariant-loop-number l = record {
  shards : l.self.shards ≡ l.initial.self.shards;
  servers : l.self.servers ≡ l.initial.self.servers;
  roles : (s v : ℕ) → s < l.initial.self.shards → v < l.initial.self.servers
      → role_at l.self s v ≡ filled (role_at l.initial.self) l.shard (λ u. None) l.number s v;
}
