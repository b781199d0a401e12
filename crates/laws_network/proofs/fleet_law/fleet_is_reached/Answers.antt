-- The law is the lemma on all that events lead to.
use Rattle.laws_network.proofs.OfFleet.{fleet_is_reached}
use Rattle.laws_network.proofs.fleet_law.fleet_is_reached.Goals as goal

pub returns : goal.returns
returns g = fleet_is_reached
