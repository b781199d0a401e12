use Rattle.sm_reservation.proofs.ParcelSums.{covers}
use Rattle.sm_reservation.proofs.Covered.{covered_not_short}
use Rattle.sm_reservation.proofs.laws.not_short_is_covered.Goals as goal

pub returns : goal.returns
returns c = record { covered = covers; not_short = covered_not_short }
