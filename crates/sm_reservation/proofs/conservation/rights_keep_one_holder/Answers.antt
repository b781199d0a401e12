use Rattle.sm_reservation.proofs.Conserved.{one_place}
use Rattle.sm_reservation.proofs.conservation.rights_keep_one_holder.Goals as goal

pub returns : goal.returns
returns c = one_place
