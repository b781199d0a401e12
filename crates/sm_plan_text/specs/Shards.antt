-- The shards of a document, with their cells.
use Rattle.std.specs.Prelude.{ℕ, ◌-◌, List, [], ◌∷◌, ◌++◌, length, map, min, Option, option_and_then, unwrap_or}
use Rattle.std.specs.List.{enumerate_from, flat_map}
use Rattle.serde_json.specs.Data.{Data}
use Rattle.sm_server.specs.Cell.{cell_in}
use Rattle.sm_placement.specs.Setup.{ShardRow}
use Rattle.sm_placement.specs.Opening.{NamedCell}
use Rattle.sm_plan_text.specs.declared.fault.TextFault.{TextFault}
use Rattle.sm_plan_text.specs.declared.member.Member.TheVariants.{Shards, Name, Load, Want, Cap, Spread, Listed, Cells}
use Rattle.sm_plan_text.specs.declared.member.Member.TheVariants.{Server, State}
use Rattle.sm_plan_text.specs.Values.{found, text_in, whole_number_of, number_in, entries_in, names_in, id_named, id_in}
use Rattle.sm_plan_text.specs.Values.{id_of, role_in}
use Rattle.sm_plan_text.specs.Tables.{Row, one, maybe, new_name, whole, known, known_or_null, role, list, own_faults}
use Rattle.sm_plan_text.specs.Tables.{walked}
use Rattle.sm_placement.specs.declared.limits.TheConstants.{MOST_LOAD, MOST_REPLICAS, MOST_CELLS}

-- no more replicas of a shard may be away at once than it wants, if it says how many it wants
abbrev pub cap_limit : Data → ℕ
cap_limit d = min MOST_REPLICAS (unwrap_or (option_and_then whole_number_of (found Want d)) MOST_REPLICAS)

-- how many cells these shards have
abbrev pub cell_count : List Data → ℕ
cell_count shards = length (flat_map (entries_in Cells) shards)

-- the members of a shard, whose name may not be one of those that are taken, and which has at most this many cells
abbrev pub shard_table : List (List ℕ) → List (List ℕ) → ℕ → Data → List Row
shard_table servers taken most_cells d =
    one Name (new_name taken) ∷
    one Load (whole MOST_LOAD) ∷
    one Want (whole MOST_REPLICAS) ∷
    one Cap (whole (cap_limit d)) ∷
    one Spread (whole MOST_REPLICAS) ∷
    maybe Listed (known_or_null servers) ∷
    one Cells (list most_cells) ∷ []

-- the members of a cell
abbrev pub cell_table : List (List ℕ) → List Row
cell_table servers =
    one Server (known servers) ∷
    one State role ∷ []

-- the faults of a cell, whatever stands before it in the list
abbrev pub cell_faults : List (List ℕ) → List Data → Data → List TextFault
cell_faults servers before d = own_faults Cells (cell_table servers) d

-- the faults of a shard before which the shards have this many cells, and then of its cells. All shards together have
-- `MOST_CELLS` at most
abbrev pub faults_of_shard : List (List ℕ) → List (List ℕ) → ℕ → Data → List TextFault
faults_of_shard servers taken cells d =
    own_faults Shards (shard_table servers taken (MOST_CELLS - cells) d) d
    ++ walked (cell_faults servers) [] (entries_in Cells d)

-- the faults of a shard that stands behind these
abbrev pub shard_faults : List (List ℕ) → List Data → Data → List TextFault
shard_faults servers before d = faults_of_shard servers (names_in before) (cell_count before) d

-- a shard of the configuration, as its object says it
abbrev pub shard_in : Data → ShardRow
shard_in d = record {
  name = text_in Name d;
  load = number_in Load MOST_LOAD d;
  want = number_in Want MOST_REPLICAS d;
  cap = number_in Cap (cap_limit d) d;
  spread = number_in Spread MOST_REPLICAS d;
}

-- the server that the shard's entry in the published map names
abbrev pub listed_in : List (List ℕ) → Data → Option ℕ
listed_in servers d = option_and_then (id_named servers) (found Listed d)

-- a cell of the shard with this number, as its object says it
abbrev pub named_cell : List (List ℕ) → ℕ → Data → NamedCell
named_cell servers shard d = (shard, id_in servers Server d, cell_in (role_in State d))

-- the cells of a shard, by its number in the list
abbrev pub cells_of_shard : List (List ℕ) → ℕ × Data → List NamedCell
cells_of_shard servers numbered = map (named_cell servers (id_of numbered.0)) (entries_in Cells numbered.1)

-- the cells of all shards
abbrev pub cells_in : List (List ℕ) → List Data → List NamedCell
cells_in servers shards = flat_map (cells_of_shard servers) (enumerate_from 0 shards)
