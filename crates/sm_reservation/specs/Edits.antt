-- Rows in order, with the rows of a parcel worked into them.
-- Internal definitions: you need not read them for the public contracts.
use Rattle.std.specs.Prelude.{◌≡◌, ℕ, ◌+◌, ◌-◌, ◌%◌, ◌^◌, ◌==◌, ◌&&◌, is_none, is_some, insert, remove, slice_set}
use Rattle.std.specs.Prelude.{Option, Some, None, List, [], ◌∷◌, if◌then◌else◌}
use Rattle.sm_placement.specs.Sums.{bit}
use Rattle.sm_reservation.specs.declared.right.Room.{Room}
use Rattle.sm_reservation.specs.declared.right.Spare.{Spare}
use Rattle.sm_reservation.specs.Rows.{same, before, row_at, amount_of}

-- the rows with one in front of them, if there is one
abbrev pub in_front : {T : Type 0} → Option T → List T → List T
in_front None xs = xs
in_front (Some x) xs = x ∷ xs

-- The rows with one row worked in: `edit` says what stands at its key then, from what stood there.
abbrev pub edited : {T : Type 0} → (T → ℕ × ℕ) → (Option T → T → Option T) → List T → T → List T
edited key_of edit [] y = in_front (edit None y) []
edited key_of edit (x ∷ xs) y =
    if before (key_of x) (key_of y) then x ∷ edited key_of edit xs y else (if same (key_of x) (key_of y) then in_front (edit (Some x) y) xs else in_front (edit None y) (x ∷ xs))

-- the rows with what stood at a number, a row or none, replaced by what is left there
abbrev pub left_at : {T : Type 0} → Option T → Option T → ℕ → List T → List T
left_at None None n xs = xs
left_at None (Some z) n xs = insert xs n z
left_at (Some x) None n xs = remove xs n
left_at (Some x) (Some z) n xs = slice_set xs n z

-- the rows with those of a list worked in, one after another
abbrev pub edited_all : {T : Type 0} → (T → ℕ × ℕ) → (Option T → T → Option T) → List T → List T → List T
edited_all key_of edit xs [] = xs
edited_all key_of edit xs (y ∷ ys) = edited_all key_of edit (edited key_of edit xs y) ys

-- ---- what stands at a key once a row is taken out or put in

-- nothing is left of a cell right or a crown
abbrev pub row_out : {T : Type 0} → Option T → T → Option T
row_out held y = None

-- a cell right or a crown stands in place of what was there
abbrev pub row_in : {T : Type 0} → Option T → T → Option T
row_in held y = Some y

-- an amount of room, if there is any
abbrev pub room_of : Room → ℕ → Option Room
room_of y n = if n == 0 then None else Some (record y { amount = n })

-- the room that is left at a key once the row's amount is taken out; none if that leaves 0
abbrev pub room_row_out : Option Room → Room → Option Room
room_row_out held y = room_of y (amount_of (λ x. x.amount) held - y.amount)

-- the room at a key once the row's amount is put in; none if that makes 0
abbrev pub room_row_in : Option Room → Room → Option Room
room_row_in held y = room_of y (amount_of (λ x. x.amount) held + y.amount)

-- an amount of spare replicas, if there are any
abbrev pub spare_of : Spare → ℕ → Option Spare
spare_of y n = if n == 0 then None else Some (record y { amount = n })

-- the spare replicas that are left at a key once the row's amount is taken out; none if that leaves 0
abbrev pub spare_row_out : Option Spare → Spare → Option Spare
spare_row_out held y = spare_of y (amount_of (λ x. x.amount) held - y.amount)

-- the spare replicas at a key once the row's amount is put in; none if that makes 0
abbrev pub spare_row_in : Option Spare → Spare → Option Spare
spare_row_in held y = spare_of y (amount_of (λ x. x.amount) held + y.amount)

-- the room at a key once the row's amount is put in, with the sum as a u64 holds it: modulo 2^64
abbrev pub room_in_word : Option Room → Room → Option Room
room_in_word held y = room_of y ((amount_of (λ x. x.amount) held + y.amount) % 2 ^ 64)

-- the spare replicas at a key once the row's amount is put in, with the sum as a u64 holds it: modulo 2^64
abbrev pub spare_in_word : Option Spare → Spare → Option Spare
spare_in_word held y = spare_of y ((amount_of (λ x. x.amount) held + y.amount) % 2 ^ 64)

-- ---- one pass over the rows and the list

-- what an edit leaves stands at the key of the row that is worked in
abbrev pub StaysAt : {T : Type 0} → (T → ℕ × ℕ) → (Option T → T → Option T) → Type 0
StaysAt {T} key_of edit = (held : Option T) (y z : T) → edit held y ≡ Some z → key_of z ≡ key_of y

-- the first row, if it stands at a key
abbrev pub head_at : {T : Type 0} → (T → ℕ × ℕ) → List T → ℕ × ℕ → Option T
head_at key_of [] k = None
head_at key_of (x ∷ xs) k = if same (key_of x) k then Some x else None

-- how many rows of a list come in at keys where no row stands
abbrev pub new_rows : {T : Type 0} → (T → ℕ × ℕ) → (Option T → T → Option T) → List T → List T → ℕ
new_rows key_of edit xs [] = 0
new_rows key_of edit xs (y ∷ ys) = bit (is_none (row_at key_of xs (key_of y)) && is_some (edit None y)) + new_rows key_of edit xs ys
