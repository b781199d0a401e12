-- The law is the lemma on all that events lead to.
use Rattle.laws_network.proofs.FleetProgress.{some_fleet_can_go_on}
use Rattle.laws_network.proofs.fleet_law.some_fleet_can_go_on.Goals as goal

pub returns : goal.returns
returns g = some_fleet_can_go_on
