-- Keys of rights: their keys in the lists, their order, and how often a key stands.
-- `IsInOrder` and `first_double` are internal: you need not read them for the public contracts.
use Rattle.std.specs.Prelude.{◌≡◌, ℕ, ◌≤◌, ◌<◌, ◌^◌, ◌++◌, Bool, true, false, nat_lt, count_by, filter, Contains, List}
use Rattle.std.specs.Prelude.{Option, codes, decimal}
use Rattle.std.specs.List.Sorted.{IsPermutation}
use Rattle.std.specs.List.{AllByRecursion}
use Rattle.std.specs.Option.{option_map, option_or}
use Rattle.sm_reservation.specs.declared.right.CellRight.{CellRight}
use Rattle.sm_reservation.specs.declared.right.Crown.{Crown}
use Rattle.sm_reservation.specs.declared.right.Room.{Room}
use Rattle.sm_reservation.specs.declared.right.Spare.{Spare}
use Rattle.sm_reservation.specs.declared.right.Key.{Key}
use Rattle.sm_reservation.specs.declared.right.Key.TheVariants as key
use Rattle.sm_reservation.specs.Rights.{Rights}
use Rattle.sm_reservation.specs.Rows.{same, before, Rises, Climbs, HasPositive, first_twin}

-- a cell right's key: its shard and its server
abbrev pub key_of_cell : CellRight → ℕ × ℕ
key_of_cell x = (x.shard, x.server)

-- a crown's key: its shard, and 0
abbrev pub key_of_crown : Crown → ℕ × ℕ
key_of_crown x = (x.shard, 0)

-- the key of room: its server, and 0
abbrev pub key_of_room : Room → ℕ × ℕ
key_of_room x = (x.server, 0)

-- the key of spare replicas: their shard, and 0
abbrev pub key_of_spare : Spare → ℕ × ℕ
key_of_spare x = (x.shard, 0)

-- what a right is of, as an error text names it
abbrev pub shown_key : Key → List ℕ
shown_key (key.CellRight s v) = codes "the cell of shard " ++ (decimal s ++ (codes " at server " ++ decimal v))
shown_key (key.Crown s) = codes "the crown of shard " ++ decimal s
shown_key (key.Room v) = codes "room of server " ++ decimal v
shown_key (key.Spare s) = codes "spare replicas of shard " ++ decimal s

-- keys go by their kind, then by shard, then by server
abbrev pub key_before : Key → Key → Bool
key_before (key.CellRight s v) (key.CellRight t w) = before (s, v) (t, w)
key_before (key.CellRight s v) _ = true
key_before (key.Crown s) (key.CellRight t w) = false
key_before (key.Crown s) (key.Crown t) = nat_lt s t
key_before (key.Crown s) _ = true
key_before (key.Room v) (key.Room w) = nat_lt v w
key_before (key.Room v) (key.Spare t) = true
key_before (key.Room v) _ = false
key_before (key.Spare s) (key.Spare t) = nat_lt s t
key_before (key.Spare s) _ = false

-- how often a key stands in the four lists
abbrev pub key_count : Rights → Key → ℕ
key_count r (key.CellRight s v) = count_by (λ x. same (key_of_cell x) (s, v)) r.cells
key_count r (key.Crown s) = count_by (λ x. same (key_of_crown x) (s, 0)) r.crowns
key_count r (key.Room v) = count_by (λ x. same (key_of_room x) (v, 0)) r.room
key_count r (key.Spare s) = count_by (λ x. same (key_of_spare x) (s, 0)) r.spare

-- no key stands twice
abbrev pub IsOnce : Rights → Type 0
IsOnce r = (k : Key) → key_count r k ≤ 1

-- the key stands twice, and no lower key does
pub record IsLowestDouble (r : Rights) (k : Key) : Type 0 where
  pub twice : 2 ≤ key_count r k
  pub lowest : (j : Key) → key_before j k ≡ true → key_count r j ≤ 1

-- rights of the four kinds
abbrev pub lists : List CellRight → List Crown → List Room → List Spare → Rights
lists cells crowns room spare = record { cells = cells; crowns = crowns; room = room; spare = spare }

-- each list rises by its keys
pub record IsOrdered (r : Rights) : Type 0 where
  pub cells : Rises key_of_cell r.cells
  pub crowns : Rises key_of_crown r.crowns
  pub room : Rises key_of_room r.room
  pub spare : Rises key_of_spare r.spare

-- no amount is 0
pub record IsPositive (r : Rights) : Type 0 where
  pub room : HasPositive (λ x. x.amount) r.room
  pub spare : HasPositive (λ x. x.amount) r.spare

-- each amount is a u64
pub record AreU64 (r : Rights) : Type 0 where
  pub room : AllByRecursion (λ x. x.amount < 2 ^ 64) r.room
  pub spare : AllByRecursion (λ x. x.amount < 2 ^ 64) r.spare

-- two lists of the same elements
abbrev pub SameElements : {T : Type 0} → List T → List T → Type 0
SameElements {T} xs ys = (x : T) → (Contains xs x → Contains ys x) × (Contains ys x → Contains xs x)

-- the same rights, without amounts of 0
pub record IsSortedFrom (lists sorted : Rights) : Type 0 where
  pub cells : SameElements lists.cells sorted.cells
  pub crowns : SameElements lists.crowns sorted.crowns
  pub room : SameElements (filter (λ x. nat_lt 0 x.amount) lists.room) sorted.room
  pub spare : SameElements (filter (λ x. nat_lt 0 x.amount) lists.spare) sorted.spare

-- the second lists are the first ones put in order
pub record IsInOrder (r s : Rights) : Type 0 where
  pub cells : IsPermutation r.cells s.cells
  pub crowns : IsPermutation r.crowns s.crowns
  pub room : IsPermutation r.room s.room
  pub spare : IsPermutation r.spare s.spare
  pub cells_climb : Climbs key_of_cell s.cells
  pub crowns_climb : Climbs key_of_crown s.crowns
  pub room_climb : Climbs key_of_room s.room
  pub spare_climb : Climbs key_of_spare s.spare

-- the lowest key of two neighbours, if each list is in order
abbrev pub first_double : Rights → Option Key
first_double r =
    option_or
    (option_or
    (option_or
    (option_map (λ p. key.CellRight p.0 p.1) (first_twin key_of_cell r.cells))
    (option_map (λ p. key.Crown p.0) (first_twin key_of_crown r.crowns)))
    (option_map (λ p. key.Room p.0) (first_twin key_of_room r.room)))
    (option_map (λ p. key.Spare p.0) (first_twin key_of_spare r.spare))
