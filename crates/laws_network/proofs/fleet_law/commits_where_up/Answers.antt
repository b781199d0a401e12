-- The law is the lemma on all that events lead to.
use Rattle.laws_network.proofs.FleetOnce.{commits_where_up}
use Rattle.laws_network.proofs.fleet_law.commits_where_up.Goals as goal

pub returns : goal.returns
returns g = commits_where_up
