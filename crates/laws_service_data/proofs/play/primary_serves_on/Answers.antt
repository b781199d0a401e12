-- The play is computed.
use Rattle.laws_service_data.proofs.ReopenedPlays.{primary_serves_on}
use Rattle.laws_service_data.proofs.play.primary_serves_on.Goals as goal

pub returns : goal.returns
returns c = primary_serves_on
