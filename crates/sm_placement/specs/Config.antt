-- The rows of a configuration's servers and shards, and why they are refused.
-- `server_names` and `shard_names` are internal: you need not read them for the public contracts.
use Rattle.std.specs.Prelude.{not, ℕ, List, Option, Some, None, if◌then◌else◌, map, string_bytes}
use Rattle.sm_placement.specs.declared.config.Server.{Server}
use Rattle.sm_placement.specs.declared.config.Shard.{Shard}
use Rattle.sm_placement.specs.declared.config.ConfigFault.{ConfigFault}
use Rattle.sm_placement.specs.declared.config.ConfigFault.TheVariants.{TooMany, BadName, DoubleName, BadNumber}
use Rattle.sm_placement.specs.Setup.{ServerRow, ShardRow, Setup, is_too_large, has_good_names, has_doubled_name}
use Rattle.sm_placement.specs.Setup.{has_good_numbers}

-- a server as a configuration says it: its name and its region as bytes, and its room
abbrev pub server_row : Server → ServerRow
server_row s = record { name = string_bytes s.name; region = string_bytes s.region; room = s.room }

-- a shard as a configuration says it: its name as bytes, with its load, want, cap and spread
abbrev pub shard_row : Shard → ShardRow
shard_row s = record { name = string_bytes s.name; load = s.load; want = s.want; cap = s.cap; spread = s.spread }

-- the configuration of these servers and shards, each at the number that its position in the list gives
abbrev pub setup_of : List Server → List Shard → Setup
setup_of servers shards = record { servers = map server_row servers; shards = map shard_row shards }

-- the names of servers in their order
abbrev pub server_names : List Server → List (List ℕ)
server_names servers = map (λ r. r.name) (map server_row servers)

-- the names of shards in their order
abbrev pub shard_names : List Shard → List (List ℕ)
shard_names shards = map (λ r. r.name) (map shard_row shards)

-- why servers and shards are no configuration: the first fault in the order of these lines
abbrev pub config_fault : Setup → Option ConfigFault
config_fault setup =
    if is_too_large setup then Some TooMany
    else if not (has_good_names setup) then Some BadName
    else if has_doubled_name setup then Some DoubleName
    else if not (has_good_numbers setup) then Some BadNumber
    else None
