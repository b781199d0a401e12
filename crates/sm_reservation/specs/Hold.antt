-- A hold: rights as they are read by their keys, and a parcel's rights put in and taken out.
use Rattle.std.specs.Prelude.{ℕ, ◌+◌, ◌-◌, Option, Some, None, List, [], ◌∷◌}
use Rattle.sm_placement.specs.declared.lead.Lead.{Lead}
use Rattle.sm_placement.specs.Sums.{put, put2}
use Rattle.sm_reservation.specs.declared.right.PlainCell.{PlainCell}
use Rattle.sm_reservation.specs.declared.right.CellRight.{CellRight}
use Rattle.sm_reservation.specs.declared.right.Crown.{Crown}
use Rattle.sm_reservation.specs.declared.right.Room.{Room}
use Rattle.sm_reservation.specs.declared.right.Spare.{Spare}
use Rattle.sm_reservation.specs.Rights.{Rights}

-- A hold: rights as they are read by their keys. At a key there is a right to the cell or none, a crown or none, and an
-- amount of room or of spare replicas.
pub record Hold : Type 0 where
  -- by shard, then by server: the state of the cell to which there is a right
  pub cells : ℕ → ℕ → Option PlainCell
  -- by shard: the lead and the listed server of its crown
  pub crowns : ℕ → Option (Lead × Option ℕ)
  -- by server
  pub room : ℕ → ℕ
  -- by shard
  pub spare : ℕ → ℕ

-- the hold without any right
abbrev pub no_hold : Hold
no_hold = record { cells = λ s v. None; crowns = λ s. None; room = λ v. 0; spare = λ s. 0 }

-- ---- one key changed

-- the hold with this right to the cell of s at v in place of what it had, or with none
abbrev pub with_cell : Hold → ℕ → ℕ → Option PlainCell → Hold
with_cell h s v o = record h { cells = put2 h.cells s v o }

-- the hold with the crown of s, at this lead and listed server, in place of what it had
abbrev pub with_crown : Hold → ℕ → Lead → Option ℕ → Hold
with_crown h s lead listed = record h { crowns = put h.crowns s (Some (lead, listed)) }

-- the hold without the crown of s
abbrev pub without_crown : Hold → ℕ → Hold
without_crown h s = record h { crowns = put h.crowns s None }

-- the hold with n less of the room at v, and with none if it had less than n
abbrev pub pay_room : Hold → ℕ → ℕ → Hold
pay_room h v n = record h { room = put h.room v (h.room v - n) }

-- the hold with n more of the room at v
abbrev pub get_room : Hold → ℕ → ℕ → Hold
get_room h v n = record h { room = put h.room v (h.room v + n) }

-- the hold with n spare replicas of s fewer, and with none if it had fewer than n
abbrev pub pay_spare : Hold → ℕ → ℕ → Hold
pay_spare h s n = record h { spare = put h.spare s (h.spare s - n) }

-- the hold with n spare replicas of s more
abbrev pub get_spare : Hold → ℕ → ℕ → Hold
get_spare h s n = record h { spare = put h.spare s (h.spare s + n) }

-- ---- a parcel taken out, and put in

-- the hold without any right to the cells of this list, whatever their states
abbrev pub minus_cells : Hold → List CellRight → Hold
minus_cells h [] = h
minus_cells h (x ∷ xs) = minus_cells (with_cell h x.shard x.server None) xs

-- the hold without the crowns of this list's shards, whatever their leads and listed servers
abbrev pub minus_crowns : Hold → List Crown → Hold
minus_crowns h [] = h
minus_crowns h (x ∷ xs) = minus_crowns (without_crown h x.shard) xs

-- the hold with the room of this list taken out
abbrev pub minus_room : Hold → List Room → Hold
minus_room h [] = h
minus_room h (x ∷ xs) = minus_room (pay_room h x.server x.amount) xs

-- the hold with the spare replicas of this list taken out
abbrev pub minus_spare : Hold → List Spare → Hold
minus_spare h [] = h
minus_spare h (x ∷ xs) = minus_spare (pay_spare h x.shard x.amount) xs

-- the hold with the cell rights of this list, each in place of what it had at that key
abbrev pub plus_cells : Hold → List CellRight → Hold
plus_cells h [] = h
plus_cells h (x ∷ xs) = plus_cells (with_cell h x.shard x.server (Some x.state)) xs

-- the hold with the crowns of this list, each in place of what it had at that key
abbrev pub plus_crowns : Hold → List Crown → Hold
plus_crowns h [] = h
plus_crowns h (x ∷ xs) = plus_crowns (with_crown h x.shard x.lead x.listed) xs

-- the hold with the room of this list put in
abbrev pub plus_room : Hold → List Room → Hold
plus_room h [] = h
plus_room h (x ∷ xs) = plus_room (get_room h x.server x.amount) xs

-- the hold with the spare replicas of this list put in
abbrev pub plus_spare : Hold → List Spare → Hold
plus_spare h [] = h
plus_spare h (x ∷ xs) = plus_spare (get_spare h x.shard x.amount) xs

-- the hold without the rights of a parcel
abbrev pub minus : Hold → Rights → Hold
minus h p = minus_spare (minus_room (minus_crowns (minus_cells h p.cells) p.crowns) p.room) p.spare

-- the hold with the rights of a parcel
abbrev pub plus : Hold → Rights → Hold
plus h p = plus_spare (plus_room (plus_crowns (plus_cells h p.cells) p.crowns) p.room) p.spare
