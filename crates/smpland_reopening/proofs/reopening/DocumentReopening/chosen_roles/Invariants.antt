use Rattle.std.proofs.Common.{◌≡◌, ◌<◌, ℕ, length, take}
use Rattle.smpland_reopening.specs.Chosen.{chosen_role}
use Rattle.smpland_reopening.specs.RoleGrids.{role_at}
use Rattle.smpland_reopening.proofs.reopening.DocumentReopening.chosen_roles.Given as goal

-- the choices so far count, and there are as many roles
abbrev pub invariant-loop-choice : goal.invariant-loop-choice
invariant-loop-choice l = record {
  shards : l.roles.shards ≡ length l.self.numbering.shards;
  servers : l.roles.servers ≡ length l.self.numbering.servers;
  roles : (s v : ℕ) → s < length l.self.numbering.shards → v < length l.self.numbering.servers
      → role_at l.roles s v ≡ chosen_role l.self (take l.choice-index l.chosen) s v;
}
