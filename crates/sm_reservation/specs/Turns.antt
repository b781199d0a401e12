-- Rights put into a hold and taken out of it one after another.
-- Public functions' contracts cite `lacks_cell` to `loses_spare`, `RoomFits` and `SpareFits`, by way of the counts and
-- sums of Capacity. The others are internal: you need not read them for the public contracts.
use Rattle.std.specs.Prelude.{◌+◌, ◌≤◌, ◌<◌, ◌^◌, ◌==◌, ◌&&◌, Bool, nat_lt, is_none, is_some, Some, None}
use Rattle.sm_reservation.specs.declared.right.CellRight.{CellRight}
use Rattle.sm_reservation.specs.declared.right.Crown.{Crown}
use Rattle.sm_reservation.specs.declared.right.Room.{Room}
use Rattle.sm_reservation.specs.declared.right.Spare.{Spare}
use Rattle.sm_reservation.specs.Hold.{Hold, with_cell, with_crown, without_crown, pay_room, get_room, pay_spare}
use Rattle.sm_reservation.specs.Hold.{get_spare}

-- ---- one right taken out

-- the hold without any right to this cell, whatever its state
abbrev pub out_cell : Hold → CellRight → Hold
out_cell h x = with_cell h x.shard x.server None

-- the hold without the crown of this shard, whatever its lead and listed server
abbrev pub out_crown : Hold → Crown → Hold
out_crown h x = without_crown h x.shard

-- the hold with this room taken out
abbrev pub out_room : Hold → Room → Hold
out_room h x = pay_room h x.server x.amount

-- the hold with these spare replicas taken out
abbrev pub out_spare : Hold → Spare → Hold
out_spare h x = pay_spare h x.shard x.amount

-- ---- one right put in

-- the hold with this cell right, in place of what it had at that key
abbrev pub in_cell : Hold → CellRight → Hold
in_cell h x = with_cell h x.shard x.server (Some x.state)

-- the hold with this crown, in place of what it had at that key
abbrev pub in_crown : Hold → Crown → Hold
in_crown h x = with_crown h x.shard x.lead x.listed

-- the hold with this room put in
abbrev pub in_room : Hold → Room → Hold
in_room h x = get_room h x.server x.amount

-- the hold with these spare replicas put in
abbrev pub in_spare : Hold → Spare → Hold
in_spare h x = get_spare h x.shard x.amount

-- ---- whether the key is one that the hold does not have, so that it asks for capacity

-- the hold has no right to this cell: one that is put in has a new key
abbrev pub lacks_cell : Hold → CellRight → Bool
lacks_cell h x = is_none (h.cells x.shard x.server)

-- the hold has no crown of this shard: one that is put in has a new key
abbrev pub lacks_crown : Hold → Crown → Bool
lacks_crown h x = is_none (h.crowns x.shard)

-- the hold has no room at this server, and some is put in: it has a new key
abbrev pub lacks_room : Hold → Room → Bool
lacks_room h x = nat_lt 0 x.amount && (h.room x.server == 0)

-- the hold has no spare replica of this shard, and some are put in: they have a new key
abbrev pub lacks_spare : Hold → Spare → Bool
lacks_spare h x = nat_lt 0 x.amount && (h.spare x.shard == 0)

-- ---- whether the hold has the key, and no longer has it once the right is taken out

-- the hold has a right to this cell: its key is gone once that is taken out
abbrev pub loses_cell : Hold → CellRight → Bool
loses_cell h x = is_some (h.cells x.shard x.server)

-- the hold has the crown of this shard: its key is gone once that is taken out
abbrev pub loses_crown : Hold → Crown → Bool
loses_crown h x = is_some (h.crowns x.shard)

-- this is all the room that the hold has at the server, and not 0: its key is gone once that is taken out
abbrev pub loses_room : Hold → Room → Bool
loses_room h x = nat_lt 0 x.amount && (h.room x.server == x.amount)

-- these are all the spare replicas that the hold has of the shard, and not 0: their key is gone once they are taken out
abbrev pub loses_spare : Hold → Spare → Bool
loses_spare h x = nat_lt 0 x.amount && (h.spare x.shard == x.amount)

-- ---- whether an amount is there, and whether a sum stays a u64

-- the hold has as much room at the server
abbrev pub HasRoom : Hold → Room → Type 0
HasRoom h x = x.amount ≤ h.room x.server

-- the hold has as many spare replicas of the shard
abbrev pub HasSpare : Hold → Spare → Type 0
HasSpare h x = x.amount ≤ h.spare x.shard

-- the room at the server stays a u64 once this is put in
abbrev pub RoomFits : Hold → Room → Type 0
RoomFits h x = h.room x.server + x.amount < 2 ^ 64

-- the spare replicas of the shard stay a u64 once these are put in
abbrev pub SpareFits : Hold → Spare → Type 0
SpareFits h x = h.spare x.shard + x.amount < 2 ^ 64
