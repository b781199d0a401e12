-- Opening a placement: the placement that is named, and why one is refused.
-- `AreKnown`, `IsNamedOnce`, `tally`, `lead_cells` and `unpublished` are internal: you need not read them for the
-- public contracts.
use Rattle.std.specs.Prelude.{◌≡◌, ◌≤◌, ℕ, ◌&&◌, ◌||◌, ◌==◌, Bool, true, false, not, List, [], ◌∷◌, ◌++◌, length}
use Rattle.std.specs.Prelude.{Option, Some, None, nat_lt, if◌then◌else◌, option_map, find, count_by}
use Rattle.std.specs.List.{list_any, range_with_len}
use Rattle.sm_server.specs.declared.call.Cell.{Cell}
use Rattle.sm_server.specs.declared.call.Cell.TheVariants.{Absent}
use Rattle.sm_server.specs.Cell.{is_primary, is_prepared, is_forwarding}
use Rattle.sm_placement.specs.declared.opening.OpenFault.{OpenFault}
use Rattle.sm_placement.specs.declared.opening.OpenFault.TheVariants.{TooMany, UnknownName, DoubleCell, BadLead}
use Rattle.sm_placement.specs.declared.opening.OpenFault.TheVariants.{BadListing, OverRoom, Short, TooManyDown}
use Rattle.sm_placement.specs.declared.opening.LeadCells.{LeadCells}
use Rattle.sm_placement.specs.Setup.{Sizes}
use Rattle.sm_placement.specs.Sums.{put2, count_below, any_below, first_from}
use Rattle.sm_placement.specs.Rows.{live_in}
use Rattle.sm_placement.specs.Place.{Place, load_of, down_count}
use Rattle.sm_placement.specs.Layout.{entries_of}
use Rattle.sm_placement.specs.Grid.{TableModel, cells_of, lasts_of, down_of}
use Rattle.sm_placement.specs.declared.limits.TheConstants.{MOST_CELLS}

-- a cell, with the shard and the server that it is of
abbrev pub NamedCell : Type 0
NamedCell = ℕ × ℕ × Cell

-- what a placement is opened with
pub record Opening : Type 0 where
  pub cells : List NamedCell
  pub listed : List (Option ℕ)
  pub down : List ℕ
  pub limit : ℕ

-- the cell is named for the shard s and the server v
abbrev pub is_of : ℕ → ℕ → NamedCell → Bool
is_of s v named = (named.0 == s) && (named.1 == v)

-- the cell that the list names for a pair, and Absent if it names none
abbrev pub cell_named : List NamedCell → ℕ → ℕ → Cell
cell_named [] s v = Absent
cell_named (named ∷ rest) s v = if is_of s v named then named.2 else cell_named rest s v

-- the placement that is named: no call has been made, and nothing was published
abbrev pub opened_place : Opening → Place
opened_place o = record {
  cells = cell_named o.cells;
  last = λ s v. 0;
  down = λ v. list_any (λ x. x == v) o.down;
  listed = entries_of None o.listed;
  version = λ s. 0;
  limit = o.limit;
}

-- the lists are longer than a placement has, or don't list each shard
abbrev pub is_wrong_size : Sizes → Opening → Bool
is_wrong_size c o = nat_lt MOST_CELLS (length o.cells) || not (length o.listed == c.shards)

-- a number is given, and it is not below n
abbrev pub is_unknown : ℕ → Option ℕ → Bool
is_unknown n None = false
is_unknown n (Some k) = not (nat_lt k n)

-- the shard or the server of a named cell is not below its count. The other party of a handover isn't looked at
abbrev pub is_unknown_cell : ℕ → ℕ → NamedCell → Bool
is_unknown_cell shards servers named = not (nat_lt named.0 shards) || not (nat_lt named.1 servers)

-- the shard and the server of each named cell are below their counts
abbrev pub AreKnown : ℕ → ℕ → List NamedCell → Type 0
AreKnown shards servers cells = list_any (is_unknown_cell shards servers) cells ≡ false

-- an id is not below its count
abbrev pub has_unknown_id : Sizes → Opening → Bool
has_unknown_id c o =
    list_any (is_unknown_cell c.shards c.servers) o.cells
    || (list_any (is_unknown c.servers) o.listed || list_any (λ v. not (nat_lt v c.servers)) o.down)

-- the list names a pair more than once
abbrev pub is_double : List NamedCell → ℕ → ℕ → Bool
is_double cells s v = nat_lt 1 (count_by (is_of s v) cells)

-- each pair is named once at most
abbrev pub IsNamedOnce : List NamedCell → Type 0
IsNamedOnce cells = (s v : ℕ) → count_by (is_of s v) cells ≤ 1

-- the first number below n that passes
abbrev pub first_below : ℕ → (ℕ → Bool) → Option ℕ
first_below n test = find test (range_with_len 0 n)

-- the lowest server that the list names more than once for a shard
abbrev pub double_of : ℕ → List NamedCell → ℕ → Option OpenFault
double_of n cells s = option_map (λ v. DoubleCell s v) (first_below n (is_double cells s))

-- the cell has a part in a handover
abbrev pub is_handing : Cell → Bool
is_handing cell = is_prepared cell || is_forwarding cell

-- how many of the cells that the list names for a shard pass
abbrev pub tally : (Cell → Bool) → ℕ → List NamedCell → ℕ
tally test s cells = count_by (λ named. (named.0 == s) && test named.2) cells

-- how many primaries the list names for a shard, and how many cells with a part in a handover
abbrev pub lead_cells : List NamedCell → ℕ → LeadCells
lead_cells cells s = record { primaries = tally is_primary s cells; handing = tally is_handing s cells }

-- the cells once each of the list is put in its turn
abbrev pub put_all : List NamedCell → (ℕ → ℕ → Cell) → ℕ → ℕ → Cell
put_all [] f = f
put_all (named ∷ rest) f = put_all rest (put2 f named.0 named.1 named.2)

-- the row of a shard's cells has two primaries, or a handover is under way
abbrev pub has_bad_lead : ℕ → (ℕ → Cell) → Bool
has_bad_lead n row =
    nat_lt 1 (count_below n (λ v. is_primary (row v)))
    || any_below n (λ v. is_handing (row v))

-- the listed server isn't the shard's primary
abbrev pub has_bad_listing : (ℕ → Cell) → Option ℕ → Bool
has_bad_listing row None = false
has_bad_listing row (Some u) = not (is_primary (row u))

-- the server's load is above its room
abbrev pub is_over_room : Sizes → (ℕ → ℕ → Cell) → ℕ → Bool
is_over_room c cells v = nat_lt (c.room v) (load_of c cells v)

-- the shard has fewer live replicas than its floor
abbrev pub is_short : Sizes → (ℕ → ℕ → Cell) → (ℕ → Bool) → ℕ → Bool
is_short c cells down s = nat_lt (live_in c.servers (cells s) down) (c.floor s)

-- the first fault that is there
abbrev pub first_fault : List (Option OpenFault) → Option OpenFault
first_fault [] = None
first_fault (None ∷ rest) = first_fault rest
first_fault (Some fault ∷ rest) = Some fault

-- the fault, if it is there
abbrev pub fault_if : Bool → OpenFault → Option OpenFault
fault_if true fault = Some fault
fault_if false fault = None

-- what is wrong with the lists themselves
abbrev pub list_faults : Sizes → Opening → List (Option OpenFault)
list_faults c o =
    fault_if (is_wrong_size c o) TooMany ∷
    fault_if (has_unknown_id c o) UnknownName ∷
    first_from 0 c.shards (double_of c.servers o.cells) ∷
    option_map (λ s. BadLead s) (first_below c.shards (λ s. has_bad_lead c.servers (cell_named o.cells s))) ∷ []

-- what is wrong with listings, loads, live replicas and the servers down
abbrev pub standing_faults : Sizes → Place → List (Option OpenFault)
standing_faults c p =
    option_map (λ s. BadListing s) (first_below c.shards (λ s. has_bad_listing (p.cells s) (p.listed s))) ∷
    option_map (λ v. OverRoom v) (first_below c.servers (is_over_room c p.cells)) ∷
    option_map (λ s. Short s) (first_below c.shards (is_short c p.cells p.down)) ∷
    fault_if (nat_lt p.limit (down_count c p)) TooManyDown ∷ []

-- why a placement is not opened: the first fault in the order of these lines, each with its lowest shard and server
abbrev pub open_fault : Sizes → Opening → Option OpenFault
open_fault c o = first_fault (list_faults c o ++ standing_faults c (opened_place o))

-- the placement of a table's cells, of which nothing has been published
abbrev pub unpublished : TableModel → List (Option ℕ) → ℕ → Place
unpublished g listed limit = record { cells = cells_of g; last = lasts_of g; down = down_of g; listed = entries_of None listed; version = λ s. 0; limit = limit }
