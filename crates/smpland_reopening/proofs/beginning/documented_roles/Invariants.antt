use Rattle.std.proofs.Common.{◌≡◌, ◌<◌, ℕ, length, take}
use Rattle.smpland_reopening.specs.Begun.{role_written}
use Rattle.smpland_reopening.specs.RoleGrids.{role_at}
use Rattle.smpland_reopening.proofs.beginning.documented_roles.Given as goal

-- the cells so far give their roles, and there are as many
abbrev pub invariant-loop-named : goal.invariant-loop-named
invariant-loop-named l = record {
  shards : l.roles.shards ≡ length l.numbering.shards;
  servers : l.roles.servers ≡ length l.numbering.servers;
  roles : (s v : ℕ) → s < length l.numbering.shards → v < length l.numbering.servers
      → role_at l.roles s v ≡ role_written l.shards l.servers (take l.named-index l.document.cells.items) s v;
}
