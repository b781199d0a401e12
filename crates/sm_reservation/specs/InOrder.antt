-- Rights put in the order of their keys.
use Rattle.std.specs.Prelude.{ℕ, nat_lt, filter, insert, List, [], ◌∷◌}
use Rattle.sm_reservation.specs.Rights.{Rights}
use Rattle.sm_reservation.specs.Rows.{count_before}
use Rattle.sm_reservation.specs.Key.{key_of_cell, key_of_crown, key_of_room, key_of_spare}

-- a row put in behind the rows that come before it
abbrev pub insert_row : {T : Type 0} → (T → ℕ × ℕ) → T → List T → List T
insert_row key_of x xs = insert xs (count_before key_of (key_of x) xs) x

-- rows in the order of their keys
abbrev pub sorted : {T : Type 0} → (T → ℕ × ℕ) → List T → List T
sorted key_of [] = []
sorted key_of (x ∷ xs) = insert_row key_of x (sorted key_of xs)

-- the rights of lists in which each key stands once: in the order of the keys, without amounts of 0
abbrev pub in_order : Rights → Rights
in_order r = record {
  cells = sorted key_of_cell r.cells;
  crowns = sorted key_of_crown r.crowns;
  room = filter (λ x. nat_lt 0 x.amount) (sorted key_of_room r.room);
  spare = filter (λ x. nat_lt 0 x.amount) (sorted key_of_spare r.spare);
}
