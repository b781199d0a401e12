-- The law is the lemma on all that events lead to.
use Rattle.laws_network.proofs.FleetOnce.{map_never_goes_back}
use Rattle.laws_network.proofs.fleet_law.map_never_goes_back.Goals as goal

pub returns : goal.returns
returns g = map_never_goes_back
