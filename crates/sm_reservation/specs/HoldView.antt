-- Holds in memory: what contracts see of them.
-- `IsHold` is what a `Hold` keeps: you need not read it for the public contracts.
use Rattle.std.specs.Prelude.{◌≤◌}
use Rattle.sm_reservation.specs.Rights.{Rights}
use Rattle.sm_reservation.specs.Key.{IsPositive, AreU64}
use Rattle.sm_reservation.specs.Capacity.{HoldModel, IsWithin, key_counts}
use Rattle.sm_reservation.specs.declared.hold.Hold.TheInside.{Inside}

-- the rights of a hold in memory
abbrev pub lists_of : Inside → Rights
lists_of a = record { cells = a.cells.items; crowns = a.crowns.items; room = a.room.items; spare = a.spare.items }

-- a hold in memory as contracts see it: its rights, and how many keys each of its lists can take
abbrev pub hold_model : Inside → HoldModel
hold_model a = record { rights = lists_of a; capacity = a.capacity }

-- what every hold in memory keeps: no amount is 0, each is a u64, no list has more keys than the capacity, and each
-- list can take as many as that
pub record IsHold (a : Inside) : Type 0 where
  pub positive : IsPositive (lists_of a)
  pub bounded : AreU64 (lists_of a)
  pub fits : IsWithin (key_counts (lists_of a)) a.capacity
  pub cells : a.capacity ≤ a.cells.capacity
  pub crowns : a.capacity ≤ a.crowns.capacity
  pub room : a.capacity ≤ a.room.capacity
  pub spare : a.capacity ≤ a.spare.capacity
