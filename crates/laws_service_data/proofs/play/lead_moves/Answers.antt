-- The play is computed.
use Rattle.laws_service_data.proofs.LeadPlays.{lead_moves}
use Rattle.laws_service_data.proofs.play.lead_moves.Goals as goal

pub returns : goal.returns
returns c = lead_moves
