-- The law is the lemma on all that events lead to.
use Rattle.laws_network.proofs.FleetSafety.{fleet_is_safe}
use Rattle.laws_network.proofs.fleet_law.fleet_is_safe.Goals as goal

pub returns : goal.returns
returns g = fleet_is_safe
