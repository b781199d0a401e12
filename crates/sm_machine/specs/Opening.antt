-- The placement at the opening, as rows.
-- `is_before` and `AreCellsBefore` are internal: you need not read them for the public contracts.
use Rattle.std.specs.Prelude.{◌≡◌, ℕ, Bool, ◌==◌, ◌&&◌, ◌||◌, nat_lt, List, Option, None, if◌then◌else◌}
use Rattle.std.specs.List.{list_any}
use Rattle.sm_server.specs.declared.call.Cell.{Cell}
use Rattle.sm_server.specs.declared.call.Cell.TheVariants.{Absent}
use Rattle.sm_placement.specs.Place.{Place}
use Rattle.sm_placement.specs.Layout.{entries_of}
use Rattle.sm_placement.specs.Opening.{NamedCell, put_all}

-- The cells that are not Absent, the servers that are down, what the published map says of each shard, and how many
-- servers may be down at once.
pub record OpeningRows : Type 0 where
  pub cells : List NamedCell
  pub listed : List (Option ℕ)
  pub versions : List ℕ
  pub down : List ℕ
  pub limit : ℕ

-- the cells that rows name, Absent if they name none
abbrev pub cells_of_rows : List NamedCell → ℕ → ℕ → Cell
cells_of_rows rows = put_all rows (λ s v. Absent)

-- the servers that are listed are down
abbrev pub down_of_rows : List ℕ → ℕ → Bool
down_of_rows rows v = list_any (λ x. x == v) rows

-- the placement that the rows stand for: no numbered call has been made
abbrev pub place_of_rows : OpeningRows → Place
place_of_rows rows = record {
  cells = cells_of_rows rows.cells;
  last = λ s v. 0;
  down = down_of_rows rows.down;
  listed = entries_of None rows.listed;
  version = entries_of 0 rows.versions;
  limit = rows.limit;
}

-- ---- how far the rows have come, shard after shard and in each server after server

-- the cell of shard s at server v comes before the one of the first two numbers, by the shard and then by the server
abbrev pub is_before : ℕ → ℕ → ℕ → ℕ → Bool
is_before shard server s v = nat_lt s shard || ((s == shard) && nat_lt v server)

-- the rows name the cells before this pair, and no others
abbrev pub AreCellsBefore : List NamedCell → (ℕ → ℕ → Cell) → ℕ → ℕ → Type 0
AreCellsBefore rows cells shard server = (s v : ℕ)
    → cells_of_rows rows s v ≡ (if is_before shard server s v then cells s v else Absent)
