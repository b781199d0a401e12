use Rattle.std.proofs.Common.{◌≡◌, ◌-◌}
use Rattle.std.specs.List.{find, range_with_len}
use Rattle.sm_reopening.specs.Proposal.{is_primary_role}
use Rattle.smpland_reopening.specs.RoleGrids.{role_at}
use Rattle.smpland_reopening.specs.Settled.{primary_by}
use Rattle.smpland_reopening.proofs.roles.Roles.primary.Given as goal

-- the first one is among those that are left
abbrev pub invariant-loop-number : goal.invariant-loop-number
invariant-loop-number l =
    find (λ v. is_primary_role (role_at l.self l.shard v)) (range_with_len l.number (l.self.servers - l.number)) ≡ primary_by l.self.servers (role_at l.self) l.shard
