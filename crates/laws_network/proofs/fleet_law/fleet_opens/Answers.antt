-- The law is the lemma on all that events lead to.
use Rattle.laws_network.proofs.FleetOpening.{fleet_opens}
use Rattle.laws_network.proofs.fleet_law.fleet_opens.Goals as goal

pub returns : goal.returns
returns g = fleet_opens
