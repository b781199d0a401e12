-- Roles by shard and server, as they are kept.
use Rattle.std.specs.Prelude.{ℕ, Option, None}
use Rattle.sm_server.specs.declared.call.Role.{Role}
use Rattle.sm_placement.specs.Layout.{grid_of}
use Rattle.smpland_reopening.specs.declared.roles.Roles.{Roles}

-- the role of a server for a shard
abbrev pub role_at : Roles → ℕ → ℕ → Option Role
role_at roles = grid_of roles.servers None roles.list.items
