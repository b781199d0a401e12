-- Parcels: what contracts see of them.
-- `IsParcel` is what a `Parcel` keeps: you need not read it for the public contracts.
use Rattle.sm_reservation.specs.Rights.{Rights}
use Rattle.sm_reservation.specs.Key.{IsOrdered, IsPositive, AreU64}
use Rattle.sm_reservation.specs.declared.parcel.Parcel.TheInside.{Inside}

-- the rights of a parcel in memory
abbrev pub parcel_of : Inside → Rights
parcel_of a = record { cells = a.cells.items; crowns = a.crowns.items; room = a.room.items; spare = a.spare.items }

-- what every parcel keeps: each list rises by its keys, no amount is 0, and each is a u64
pub record IsParcel (a : Inside) : Type 0 where
  pub ordered : IsOrdered (parcel_of a)
  pub positive : IsPositive (parcel_of a)
  pub bounded : AreU64 (parcel_of a)
