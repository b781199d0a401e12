-- The first key of a parcel that a hold is short of.
use Rattle.std.specs.Prelude.{nat_le, Option, Some, None, List, [], ◌∷◌, if◌then◌else◌}
use Rattle.std.specs.Option.{option_or}
use Rattle.sm_reservation.specs.declared.right.CellRight.{CellRight}
use Rattle.sm_reservation.specs.declared.right.Crown.{Crown}
use Rattle.sm_reservation.specs.declared.right.Room.{Room}
use Rattle.sm_reservation.specs.declared.right.Spare.{Spare}
use Rattle.sm_reservation.specs.declared.right.Short.{Short}
use Rattle.sm_reservation.specs.declared.right.Key.TheVariants as key
use Rattle.sm_reservation.specs.Rights.{Rights}
use Rattle.sm_reservation.specs.Hold.{Hold}
use Rattle.sm_reservation.specs.Amounts.{is_cell, is_crown}

-- a cell right is there in the same state, or it is short by one
abbrev pub cell_short : Hold → CellRight → Option Short
cell_short h x = if is_cell x.state (h.cells x.shard x.server) then None else Some (record { key = key.CellRight x.shard x.server; had = 0; asked = 1 })

-- a crown is there with the same lead and listed server, or it is short by one
abbrev pub crown_short : Hold → Crown → Option Short
crown_short h x = if is_crown x.lead x.listed (h.crowns x.shard) then None else Some (record { key = key.Crown x.shard; had = 0; asked = 1 })

-- there is as much room at the server, or it is short: less was had than was asked
abbrev pub room_short : Hold → Room → Option Short
room_short h x = if nat_le x.amount (h.room x.server) then None else Some (record { key = key.Room x.server; had = h.room x.server; asked = x.amount })

-- there are as many spare replicas of the shard, or they are short: fewer were had than were asked
abbrev pub spare_short : Hold → Spare → Option Short
spare_short h x = if nat_le x.amount (h.spare x.shard) then None else Some (record { key = key.Spare x.shard; had = h.spare x.shard; asked = x.amount })

-- the first answer along a list
abbrev pub first_answer : {X Y : Type 0} → (X → Option Y) → List X → Option Y
first_answer f [] = None
first_answer f (x ∷ xs) = option_or (f x) (first_answer f xs)

-- The right that a hold is short of for a parcel, of its cell rights first, then of its crowns, its room and its spare
-- replicas, in the order of each list; None if it has all of them.
abbrev pub first_short : Hold → Rights → Option Short
first_short h p =
    option_or
    (option_or
    (option_or (first_answer (cell_short h) p.cells) (first_answer (crown_short h) p.crowns))
    (first_answer (room_short h) p.room))
    (first_answer (spare_short h) p.spare)
