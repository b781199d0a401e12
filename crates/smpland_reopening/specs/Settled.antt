-- The placement of some roles: the map lists each primary, and each floor is met.
use Rattle.std.specs.Prelude.{◌≡◌, ◌&&◌, ◌-◌, ◌==◌, ℕ, Bool, List, Option, None, if◌then◌else◌, is_some, length, map}
use Rattle.std.specs.Prelude.{max, nat_lt, not, slice_index_or}
use Rattle.std.specs.List.{filter, list_any, range_with_len}
use Rattle.sm_server.specs.declared.call.Role.{Role}
use Rattle.sm_placement.specs.Layout.{PlacementModel, entries_of, place_of}
use Rattle.sm_placement.specs.Opening.{first_below}
use Rattle.sm_placement.specs.Place.{Place}
use Rattle.sm_placement.specs.Setup.{Setup, ShardRow, no_shard}
use Rattle.sm_placement.specs.Sums.{count_below}
use Rattle.sm_reopening.specs.Proposal.{is_primary_role}
use Rattle.smpland_reopening.specs.Roles.{cell_by_role}

-- roles by shard and server
abbrev pub RolesGiven : Type 0
RolesGiven = ℕ → ℕ → Option Role

-- the roles of the first shards and servers: of all others there are none
abbrev pub roles_within : ℕ → ℕ → RolesGiven → RolesGiven
roles_within shards servers roles s v = if nat_lt s shards && nat_lt v servers then roles s v else None

-- how many servers that are up have a role for a shard
abbrev pub live_by : ℕ → RolesGiven → (ℕ → Bool) → ℕ → ℕ
live_by servers roles down s = count_below servers (λ v. not (down v) && is_some (roles s v))

-- a shard with its floor lowered to this number of live replicas, where it is higher
abbrev pub shard_with_live : ShardRow → ℕ → ShardRow
shard_with_live row live = record row { cap = max row.cap (row.want - live) }

-- the shard with a number, its floor lowered to its live replicas
abbrev pub shard_met : Setup → RolesGiven → (ℕ → Bool) → ℕ → ShardRow
shard_met config roles down s =
    shard_with_live (slice_index_or config.shards s no_shard) (live_by (length config.servers) roles down s)

-- a configuration whose floors are met
abbrev pub setup_met : Setup → RolesGiven → (ℕ → Bool) → Setup
setup_met config roles down =
    record config { shards = map (shard_met config roles down) (range_with_len 0 (length config.shards)) }

-- the servers that are down, of the first of all
abbrev pub down_among : ℕ → (ℕ → Bool) → List ℕ
down_among servers down = filter down (range_with_len 0 servers)

-- the first server that is a shard's primary
abbrev pub primary_by : ℕ → RolesGiven → ℕ → Option ℕ
primary_by servers roles s = first_below servers (λ v. is_primary_role (roles s v))

-- the place that roles give: as many servers as are down may be
abbrev pub place_by : Setup → RolesGiven → (ℕ → Bool) → ℕ → Place
place_by config roles down limit = record {
  cells = λ s v. cell_by_role (roles s v);
  last = λ s v. 0;
  down = λ v. list_any (λ x. x == v) (down_among (length config.servers) down);
  listed = entries_of None (map (primary_by (length config.servers) roles) (range_with_len 0 (length config.shards)));
  version = λ s. 0;
  limit = max limit (length (down_among (length config.servers) down));
}

-- The placement is that of these roles, with these servers down.
pub record IsPlacedBy (config : Setup) (roles : RolesGiven) (down : ℕ → Bool) (most : ℕ) (p : PlacementModel) : Type 0 where
  pub setup : p.setup ≡ setup_met config roles down
  pub place : place_of p ≡ place_by config roles down most
