-- The law is the lemma on all that events lead to.
use Rattle.laws_network.proofs.FleetSafety.{map_is_right}
use Rattle.laws_network.proofs.fleet_law.map_is_right.Goals as goal

pub returns : goal.returns
returns g = map_is_right
