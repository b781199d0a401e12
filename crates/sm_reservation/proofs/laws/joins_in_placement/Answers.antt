use Rattle.sm_reservation.proofs.Joins.{joins_of_known}
use Rattle.sm_reservation.proofs.laws.joins_in_placement.Goals as goal

pub returns : goal.returns
returns c = joins_of_known
