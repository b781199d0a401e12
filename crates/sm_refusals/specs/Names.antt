-- The names of servers and shards.
use Rattle.std.specs.Prelude.{ℕ, List, slice_index_or}
use Rattle.sm_placement.specs.Setup.{Setup, no_server, no_shard}

-- the name of a server, empty if there is none
abbrev pub server_name : Setup → ℕ → List ℕ
server_name setup v = (slice_index_or setup.servers v no_server).name

-- the name of a shard, empty if there is none
abbrev pub shard_name : Setup → ℕ → List ℕ
shard_name setup s = (slice_index_or setup.shards s no_shard).name
