use Rattle.std.proofs.Common.{◌≡◌, ◌<◌, ℕ, get_or}
use Rattle.smpland_reopening.specs.RoleGrids.{role_at}
use Rattle.smpland_reopening.proofs.reopening.DocumentReopening.documents_roles.Given as goal

-- the shards so far have their roles
abbrev pub invariant-loop-shard : goal.invariant-loop-shard
invariant-loop-shard l = record {
  rows : (k v : ℕ) → k < l.shard → v < l.servers → role_at l.list k v ≡ role_at l.roles (get_or l.self.shards k 4294967295) (get_or l.self.servers v 4294967295);
  shards : l.list.shards ≡ l.shards;
  servers : l.list.servers ≡ l.servers;
}
