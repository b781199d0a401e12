-- Lists of rights, read by their keys.
use Rattle.std.specs.Prelude.{ℕ, Option, Some, None}
use Rattle.sm_placement.specs.declared.lead.Lead.{Lead}
use Rattle.sm_reservation.specs.declared.right.PlainCell.{PlainCell}
use Rattle.sm_reservation.specs.declared.right.CellRight.{CellRight}
use Rattle.sm_reservation.specs.declared.right.Crown.{Crown}
use Rattle.sm_reservation.specs.Rights.{Rights}
use Rattle.sm_reservation.specs.Hold.{Hold}
use Rattle.sm_reservation.specs.Rows.{row_at, amount_at}
use Rattle.sm_reservation.specs.Key.{key_of_cell, key_of_crown, key_of_room, key_of_spare}

-- the state of the cell to which there is a right, if there is one
abbrev pub plain_state_of : Option CellRight → Option PlainCell
plain_state_of None = None
plain_state_of (Some x) = Some x.state

-- the lead and the listed server of a crown, if there is one
abbrev pub crown_of : Option Crown → Option (Lead × Option ℕ)
crown_of None = None
crown_of (Some x) = Some (x.lead, x.listed)

-- the hold that four lists in order are
unfoldable pub hold_of : Rights → Hold
hold_of r = record {
  cells = λ s v. plain_state_of (row_at key_of_cell r.cells (s, v));
  crowns = λ s. crown_of (row_at key_of_crown r.crowns (s, 0));
  room = λ v. amount_at key_of_room (λ x. x.amount) r.room (v, 0);
  spare = λ s. amount_at key_of_spare (λ x. x.amount) r.spare (s, 0);
}
