use Rattle.sm_reservation.proofs.Conserved.{add_up}
use Rattle.sm_reservation.proofs.conservation.rights_add_up.Goals as goal

pub returns : goal.returns
returns c = add_up
