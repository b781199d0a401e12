-- Servers and shards that are as they were, but that floors may be lower.
use Rattle.std.specs.Prelude.{◌≡◌, ◌≤◌, ◌<◌, ℕ, List, length, slice_index_or}
use Rattle.sm_placement.specs.Setup.{Setup, ShardRow, no_shard}

-- a shard that is as it was, but that more of its replicas may be away
pub record IsEasedShard (old new : ShardRow) : Type 0 where
  pub same : new ≡ record old { cap = new.cap }
  pub more : old.cap ≤ new.cap

-- the first n shards, which are all of the new ones
pub record AreEasedBelow (n : ℕ) (old new : List ShardRow) : Type 0 where
  pub count : length new ≡ n
  pub each : (k : ℕ) → k < n → IsEasedShard (slice_index_or old k no_shard) (slice_index_or new k no_shard)

-- all servers, and all shards but for that
pub record IsEased (old new : Setup) : Type 0 where
  pub servers : new.servers ≡ old.servers
  pub shards : AreEasedBelow (length old.shards) old.shards new.shards
