-- The law is the lemma on all that events lead to.
use Rattle.laws_network.proofs.FleetOnce.{commits_once_per_number}
use Rattle.laws_network.proofs.fleet_law.commits_once_per_number.Goals as goal

pub returns : goal.returns
returns g = commits_once_per_number
