-- The law is the lemma on all that events lead to.
use Rattle.laws_network.proofs.FleetFinish.{fleet_can_finish}
use Rattle.laws_network.proofs.fleet_law.fleet_can_finish.Goals as goal

pub returns : goal.returns
returns g = fleet_can_finish
