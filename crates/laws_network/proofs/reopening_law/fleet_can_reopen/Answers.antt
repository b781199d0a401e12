-- The law is the lemma on the fleet's shade.
use Rattle.laws_network.proofs.FleetReopens.{fleet_can_reopen}
use Rattle.laws_network.proofs.reopening_law.fleet_can_reopen.Goals as goal

pub returns : goal.returns
returns g = fleet_can_reopen
