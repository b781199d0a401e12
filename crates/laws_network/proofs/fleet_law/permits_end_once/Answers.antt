-- The law is the lemma on all that events lead to.
use Rattle.laws_network.proofs.FleetPermits.{permits_end_once}
use Rattle.laws_network.proofs.fleet_law.permits_end_once.Goals as goal

pub returns : goal.returns
returns g = permits_end_once
