use Rattle.std.proofs.Common.{◌≡◌, ◌≤◌}
use Rattle.smpland_reopening.specs.RoleGrids.{role_at}
use Rattle.smpland_reopening.specs.Roles.{is_down_in}
use Rattle.smpland_reopening.specs.Settled.{live_by}
use Rattle.smpland_reopening.proofs.roles.Roles.live.Given as goal

-- those so far are counted, and no more than were looked at
abbrev pub invariant-loop-number : goal.invariant-loop-number
invariant-loop-number l = record {
  few : l.live ≤ l.number;
  live : l.live ≡ live_by l.number (role_at l.self) (is_down_in l.down) l.shard;
}
