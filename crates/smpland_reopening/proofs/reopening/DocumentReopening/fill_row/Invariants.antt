use Rattle.std.proofs.Common.{◌≡◌, ◌≢◌, ◌<◌, ℕ, get_or}
use Rattle.smpland_reopening.specs.RoleGrids.{role_at}
use Rattle.smpland_reopening.proofs.reopening.DocumentReopening.fill_row.Given as goal

-- the servers so far have their roles, and other rows are as they were
abbrev pub invariant-loop-server : goal.invariant-loop-server
invariant-loop-server l = record {
  row : (v : ℕ) → v < l.server → role_at l.list l.shard v ≡ role_at l.roles (get_or l.self.shards l.shard 4294967295) (get_or l.self.servers v 4294967295);
  others : (t v : ℕ) → t ≢ l.shard → role_at l.list t v ≡ role_at l.initial.list t v;
  shards : l.list.shards ≡ l.initial.list.shards;
  servers : l.list.servers ≡ l.initial.list.servers;
}
