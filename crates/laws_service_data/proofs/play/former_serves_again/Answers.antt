-- The play is computed.
use Rattle.laws_service_data.proofs.ReopenedPlays.{former_serves_again}
use Rattle.laws_service_data.proofs.play.former_serves_again.Goals as goal

pub returns : goal.returns
returns c = former_serves_again
