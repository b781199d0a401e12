use Rattle.std.proofs.Common.{refl}
use Rattle.sm_reservation.specs.HoldOf.{hold_of}
use Rattle.sm_reservation.proofs.laws.no_rights_are_no_hold.Goals as goal

pub returns : goal.returns
unfolding hold_of
returns c = refl
