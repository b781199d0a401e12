-- The law is the lemma on all that events lead to.
use Rattle.laws_network.proofs.FleetOpens.{fleet_opens_in_force}
use Rattle.laws_network.proofs.reopening_law.fleet_opens_in_force.Goals as goal

pub returns : goal.returns
returns g = fleet_opens_in_force
