-- Rights as lists: what a parcel says.
use Rattle.std.specs.Prelude.{List, []}
use Rattle.sm_reservation.specs.declared.right.CellRight.{CellRight}
use Rattle.sm_reservation.specs.declared.right.Crown.{Crown}
use Rattle.sm_reservation.specs.declared.right.Room.{Room}
use Rattle.sm_reservation.specs.declared.right.Spare.{Spare}

-- rights of the four kinds, in a list for each kind
pub record Rights : Type 0 where
  pub cells : List CellRight
  pub crowns : List Crown
  pub room : List Room
  pub spare : List Spare

-- no right of any kind
abbrev pub no_rights : Rights
no_rights = record { cells = []; crowns = []; room = []; spare = [] }
