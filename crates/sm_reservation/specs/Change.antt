-- Changes of a grant: what is given and what is got, at most one right of each kind.
use Rattle.std.specs.Option.{option_to_list}
use Rattle.sm_reservation.specs.Rights.{Rights}
use Rattle.sm_reservation.specs.declared.change.Portion.{Portion}

-- the rights of a portion
abbrev pub portion_rights : Portion → Rights
portion_rights p = record { cells = option_to_list p.cell; crowns = option_to_list p.crown; room = option_to_list p.room; spare = option_to_list p.spare }
