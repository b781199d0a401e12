-- The play is computed.
use Rattle.std.proofs.Common.{refl}
use Rattle.sm_reservation.specs.HoldOf.{hold_of}
use Rattle.sm_verifier.specs.FirstHolding.{first_holding}
use Rattle.laws_network.proofs.fleet_play.late_restore_is_harmless.Goals as goal

pub returns : goal.returns
unfolding first_holding hold_of
returns g = (refl, refl, refl)
