-- The cells of a configuration as lists, with who is down.
-- Internal definitions: you need not read them for the public contracts.
use Rattle.std.specs.Prelude.{◌≡◌, ◌<◌, ◌≤◌, ℕ, ◌*◌, Bool, false, List, length}
use Rattle.sm_server.specs.declared.call.Cell.{Cell}
use Rattle.sm_server.specs.declared.call.Cell.TheVariants.{Absent}
use Rattle.sm_placement.specs.Setup.{Setup, IsSetup, sizes_of}
use Rattle.sm_placement.specs.Rows.{live_in, serving_in, IsKnownCell}
use Rattle.sm_placement.specs.Sums.{count_below}
use Rattle.sm_placement.specs.Place.{load_of}
use Rattle.sm_placement.specs.Counts.{has_replica}
use Rattle.sm_placement.specs.Replicas.{ReplicasModel, replicas_by}
use Rattle.sm_placement.specs.Layout.{grid_of, entries_of}

-- a table as contracts see it: a configuration, the cells and their last call numbers (shard after shard, with one
-- entry for each server), and for each server whether it is down
pub record TableModel : Type 0 where
  pub setup : Setup
  pub cells : List Cell
  pub lasts : List ℕ
  pub down : List Bool

-- what a server has of a shard by the table, read by shard, then by server
abbrev pub cells_of : TableModel → ℕ → ℕ → Cell
cells_of g = grid_of (length g.setup.servers) Absent g.cells

-- the number of the last call that had an effect on the cell, 0 for none, read by shard, then by server
abbrev pub lasts_of : TableModel → ℕ → ℕ → ℕ
lasts_of g = grid_of (length g.setup.servers) 0 g.lasts

-- the server is down by the table; one that the configuration does not have is up
abbrev pub down_of : TableModel → ℕ → Bool
down_of g = entries_of false g.down

-- the totals that are kept beside the cells, and who has a replica of what
pub record Totals : Type 0 where
  pub loads : List ℕ
  pub lives : List ℕ
  pub servings : List ℕ
  pub replicas : ReplicasModel
  pub down : ℕ

-- Each list has an entry for each shard, server or pair. Each total is the sum that it stands for, and who has a
-- replica of what is what the cells say.
pub record IsCounted (g : TableModel) (t : Totals) : Type 0 where
  pub setup : IsSetup g.setup
  pub cells_length : length g.cells ≡ length g.setup.shards * length g.setup.servers
  pub lasts_length : length g.lasts ≡ length g.setup.shards * length g.setup.servers
  pub down_length : length g.down ≡ length g.setup.servers
  pub loads_length : length t.loads ≡ length g.setup.servers
  pub lives_length : length t.lives ≡ length g.setup.shards
  pub servings_length : length t.servings ≡ length g.setup.shards
  pub replicas_length : length t.replicas.held ≡ length g.setup.servers * length g.setup.shards
  pub replicas_shards : t.replicas.shards ≡ length g.setup.shards
  pub known : (s v : ℕ) → IsKnownCell (length g.setup.servers) (cells_of g s v)
  pub loads : (v : ℕ) → v < length g.setup.servers → entries_of 0 t.loads v ≡ load_of (sizes_of g.setup) (cells_of g) v
  pub lives : (s : ℕ) → s < length g.setup.shards
      → entries_of 0 t.lives s ≡ live_in (length g.setup.servers) (cells_of g s) (down_of g)
  pub servings : (s : ℕ) → s < length g.setup.shards
      → entries_of 0 t.servings s ≡ serving_in (length g.setup.servers) (cells_of g s)
  pub replicas : replicas_by t.replicas ≡ (λ v s. has_replica (cells_of g s) v)
  pub down : t.down ≡ count_below (length g.setup.servers) (down_of g)

-- beyond its servers and shards a grid has nothing, and each server that a cell names is known
pub record IsGrid (g : TableModel) : Type 0 where
  pub no_server : (s v : ℕ) → length g.setup.servers ≤ v → cells_of g s v ≡ Absent
  pub no_shard : (s v : ℕ) → length g.setup.shards ≤ s → cells_of g s v ≡ Absent
  pub known : (s v : ℕ) → IsKnownCell (length g.setup.servers) (cells_of g s v)
  pub up : (v : ℕ) → length g.setup.servers ≤ v → down_of g v ≡ false
