-- Rights as they are handed in, in any order.
use Rattle.sm_reservation.specs.Rights.{Rights}
use Rattle.sm_reservation.specs.declared.parcel.Lists.{Lists}

-- the four lists as they were handed in
abbrev pub rights_of : Lists → Rights
rights_of l = record { cells = l.cells.items; crowns = l.crowns.items; room = l.room.items; spare = l.spare.items }
