-- The servers that have replicas, as a list with an entry for each server and shard.
-- Internal definitions: you need not read them for the public contracts.
use Rattle.std.specs.Prelude.{ℕ, Bool, false, List}
use Rattle.sm_placement.specs.Layout.{grid_of}

-- the list has server after server an entry for each shard
pub record ReplicasModel : Type 0 where
  pub held : List Bool
  pub shards : ℕ

-- the server has a replica of the shard by the list, read by server, then by shard
abbrev pub replicas_by : ReplicasModel → ℕ → ℕ → Bool
replicas_by r = grid_of r.shards false r.held
