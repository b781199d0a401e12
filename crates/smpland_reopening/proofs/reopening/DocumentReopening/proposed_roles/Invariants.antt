use Rattle.std.proofs.Common.{◌≡◌, ◌<◌, ℕ, None, take}
use Rattle.std.specs.Prelude.{◌==◌, if◌then◌else◌}
use Rattle.std.specs.List.{list_any}
use Rattle.smpland_reopening.specs.Chosen.{role_by_proposal}
use Rattle.smpland_reopening.specs.RoleGrids.{role_at}
use Rattle.smpland_reopening.proofs.reopening.DocumentReopening.proposed_roles.Given as goal

-- the shards so far have what is proposed, and there are as many
abbrev pub invariant-loop-shard : goal.invariant-loop-shard
invariant-loop-shard l = record {
  shards : l.roles.shards ≡ l.initial.roles.shards;
  servers : l.roles.servers ≡ l.initial.roles.servers;
  roles : (s v : ℕ) → s < l.initial.roles.shards → v < l.initial.roles.servers → role_at l.roles s v
      ≡ (if list_any (λ k. k == s) (take l.shard-index l.self.shards) then role_by_proposal l.self s v else None);
}
