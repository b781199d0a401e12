-- Rights that are kept in lists of a capacity: how many keys the lists take, and how the lists grow and shrink.
use Rattle.std.specs.Prelude.{◌≡◌, ℕ, ◌+◌, ◌≤◌, length, max, count_by}
use Rattle.std.specs.List.{AllByRecursion}
use Rattle.sm_reservation.specs.Rights.{Rights}
use Rattle.sm_reservation.specs.Hold.{Hold, minus}
use Rattle.sm_reservation.specs.HoldOf.{hold_of}
use Rattle.sm_reservation.specs.Turns.{lacks_cell, lacks_crown, lacks_room, lacks_spare, loses_cell, loses_crown}
use Rattle.sm_reservation.specs.Turns.{loses_room, loses_spare, RoomFits, SpareFits}

-- rights, and how many keys each list can take
pub record HoldModel : Type 0 where
  pub rights : Rights
  pub capacity : ℕ

-- how many keys each list has
pub record KeyCounts : Type 0 where
  pub cells : ℕ
  pub crowns : ℕ
  pub room : ℕ
  pub spare : ℕ

-- how many keys each list of these rights has
abbrev pub key_counts : Rights → KeyCounts
key_counts r = record { cells = length r.cells; crowns = length r.crowns; room = length r.room; spare = length r.spare }

-- how many keys the longest list has
abbrev pub most_keys : Rights → ℕ
most_keys r = max (max (max (length r.cells) (length r.crowns)) (length r.room)) (length r.spare)

-- how many keys of a parcel a hold does not have
abbrev pub new_keys : Hold → Rights → KeyCounts
new_keys h p = record {
  cells = count_by (lacks_cell h) p.cells;
  crowns = count_by (lacks_crown h) p.crowns;
  room = count_by (lacks_room h) p.room;
  spare = count_by (lacks_spare h) p.spare;
}

-- how many keys a hold no longer has once a parcel is taken out
abbrev pub lost_keys : Hold → Rights → KeyCounts
lost_keys h p = record {
  cells = count_by (loses_cell h) p.cells;
  crowns = count_by (loses_crown h) p.crowns;
  room = count_by (loses_room h) p.room;
  spare = count_by (loses_spare h) p.spare;
}

-- two counts of keys added up, list by list
abbrev pub add_counts : KeyCounts → KeyCounts → KeyCounts
add_counts a b = record { cells = a.cells + b.cells; crowns = a.crowns + b.crowns; room = a.room + b.room; spare = a.spare + b.spare }

-- no list has more keys than the capacity
pub record IsWithin (a : KeyCounts) (capacity : ℕ) : Type 0 where
  pub cells : a.cells ≤ capacity
  pub crowns : a.crowns ≤ capacity
  pub room : a.room ≤ capacity
  pub spare : a.spare ≤ capacity

-- there is capacity for the keys of a parcel that are new
abbrev pub HasCapacity : HoldModel → Rights → Type 0
HasCapacity k p = IsWithin (add_counts (key_counts k.rights) (new_keys (hold_of k.rights) p)) k.capacity

-- the lists have lost the keys that a parcel used up
pub record IsLess (old new : HoldModel) (p : Rights) : Type 0 where
  pub sizes : add_counts (key_counts new.rights) (lost_keys (hold_of old.rights) p) ≡ key_counts old.rights
  pub capacity : new.capacity ≡ old.capacity

-- the lists have gained the keys of a parcel that were new
pub record IsMore (old new : HoldModel) (p : Rights) : Type 0 where
  pub sizes : key_counts new.rights ≡ add_counts (key_counts old.rights) (new_keys (hold_of old.rights) p)
  pub capacity : new.capacity ≡ old.capacity

-- no sum of the parcel and the hold passes u64
pub record SumsFit (h : Hold) (p : Rights) : Type 0 where
  pub room : AllByRecursion (RoomFits h) p.room
  pub spare : AllByRecursion (SpareFits h) p.spare

-- there is capacity for the new keys of what is got, once what is given is out
pub record HasCapacityAfter (k : HoldModel) (out got : Rights) : Type 0 where
  pub cells : length k.rights.cells + (new_keys (minus (hold_of k.rights) out) got).cells ≤ k.capacity + (lost_keys (hold_of k.rights) out).cells
  pub crowns : length k.rights.crowns + (new_keys (minus (hold_of k.rights) out) got).crowns ≤ k.capacity + (lost_keys (hold_of k.rights) out).crowns
  pub room : length k.rights.room + (new_keys (minus (hold_of k.rights) out) got).room ≤ k.capacity + (lost_keys (hold_of k.rights) out).room
  pub spare : length k.rights.spare + (new_keys (minus (hold_of k.rights) out) got).spare ≤ k.capacity + (lost_keys (hold_of k.rights) out).spare

-- the lists have lost the keys that were used up, and gained those that were new
pub record IsTraded (old new : HoldModel) (out got : Rights) : Type 0 where
  pub sizes : add_counts (key_counts new.rights) (lost_keys (hold_of old.rights) out)
      ≡ add_counts (key_counts old.rights) (new_keys (minus (hold_of old.rights) out) got)
  pub capacity : new.capacity ≡ old.capacity
