-- The play is computed.
use Rattle.laws_service_data.proofs.ReopenedPlays.{secondary_is_chosen}
use Rattle.laws_service_data.proofs.play.secondary_is_chosen.Goals as goal

pub returns : goal.returns
returns c = secondary_is_chosen
