use Rattle.std.proofs.Common.{◌≡◌, ◌<◌, ℕ}
use Rattle.smpland_reopening.specs.Chosen.{role_by_proposal}
use Rattle.smpland_reopening.specs.RoleGrids.{role_at}
use Rattle.smpland_reopening.proofs.Chosen.{filled}
use Rattle.smpland_reopening.proofs.reopening.DocumentReopening.propose_shard.Given as goal

-- the servers so far have what is proposed, and there are as many
abbrev pub invariant-loop-number : goal.invariant-loop-number
invariant-loop-number l = record {
  shards : l.roles.shards ≡ l.initial.roles.shards;
  servers : l.roles.servers ≡ l.initial.roles.servers;
  roles : (s v : ℕ) → s < l.initial.roles.shards → v < l.initial.roles.servers
      → role_at l.roles s v ≡ filled (role_at l.initial.roles) l.shard (role_by_proposal l.self l.shard) l.number s v;
}
