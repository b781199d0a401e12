-- The law is the lemma on all that events lead to.
use Rattle.laws_network.proofs.FleetOnce.{only_present_commits}
use Rattle.laws_network.proofs.fleet_law.only_present_commits.Goals as goal

pub returns : goal.returns
returns g = only_present_commits
