-- Why four lists are no parcel.
use Rattle.sm_reservation.specs.Rights.{Rights}
use Rattle.sm_reservation.specs.Key.{IsLowestDouble}
use Rattle.sm_reservation.specs.declared.parcel.ParcelFault.{ParcelFault}
use Rattle.sm_reservation.specs.declared.parcel.ParcelFault.TheVariants.{NoMemory, Double}

-- memory was short, or a key stands twice, and it is the lowest
abbrev pub IsParcelFault : Rights → ParcelFault → Type 0
IsParcelFault r NoMemory = Unit {0}
IsParcelFault r (Double k) = IsLowestDouble r k
