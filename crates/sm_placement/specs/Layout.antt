-- A placement as lists: the cells shard after shard, with one cell for each server.
use Rattle.std.specs.Prelude.{◌≡◌, ◌≤◌, ◌<◌, ℕ, ◌+◌, ◌*◌, Bool, false, List, length, Option, Some, None, nat_lt}
use Rattle.std.specs.Prelude.{if◌then◌else◌, slice_index_or}
use Rattle.sm_server.specs.declared.call.Cell.{Cell}
use Rattle.sm_server.specs.declared.call.Cell.TheVariants.{Absent}
use Rattle.sm_placement.specs.Setup.{Setup, Sizes}
use Rattle.sm_placement.specs.Rows.{IsKnownCell}
use Rattle.sm_placement.specs.Place.{Place, load_at}

-- a placement as contracts see it: a configuration, the cells and their last call numbers (shard after shard, with one
-- entry for each server), for each server whether it is down, for each shard the listed server and the version of the
-- map's entry, and how many servers may be down at once (SM 2021)
pub record PlacementModel : Type 0 where
  pub setup : Setup
  pub cells : List Cell
  pub lasts : List ℕ
  pub down : List Bool
  pub listed : List (Option ℕ)
  pub versions : List ℕ
  pub limit : ℕ

-- a list of rows of `width` places each, read by row and place
unfoldable pub grid_of : {A : Type 0} → ℕ → A → List A → ℕ → ℕ → A
grid_of width none xs s v = if nat_lt v width then slice_index_or xs (s * width + v) none else none

-- a list, read by place
unfoldable pub entries_of : {A : Type 0} → A → List A → ℕ → A
entries_of none xs k = slice_index_or xs k none

-- the placement that the lists stand for
abbrev pub place_of : PlacementModel → Place
place_of l = record {
  cells = grid_of (length l.setup.servers) Absent l.cells;
  last = grid_of (length l.setup.servers) 0 l.lasts;
  down = entries_of false l.down;
  listed = entries_of None l.listed;
  version = entries_of 0 l.versions;
  limit = l.limit;
}

-- The facts that every placement keeps: beyond its servers and shards there is nothing, nobody is down and nothing is
-- listed, each server that a cell or the map names is known, and no load is above its room.
pub record IsPlacement (c : Sizes) (p : Place) : Type 0 where
  pub no_server : (s v : ℕ) → c.servers ≤ v → p.cells s v ≡ Absent
  pub no_shard : (s v : ℕ) → c.shards ≤ s → p.cells s v ≡ Absent
  pub no_entry : (s : ℕ) → c.shards ≤ s → p.listed s ≡ None
  pub no_down : (v : ℕ) → c.servers ≤ v → p.down v ≡ false
  pub known : (s v : ℕ) → IsKnownCell c.servers (p.cells s v)
  pub listed : (s u : ℕ) → p.listed s ≡ Some u → u < c.servers
  pub rooms : (v : ℕ) → v < c.servers → load_at c p v ≤ c.room v
