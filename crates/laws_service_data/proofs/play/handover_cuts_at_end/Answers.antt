-- The play is computed.
use Rattle.laws_service_data.proofs.CutPlays.{handover_cuts_at_end}
use Rattle.laws_service_data.proofs.play.handover_cuts_at_end.Goals as goal

pub returns : goal.returns
returns c = handover_cuts_at_end
