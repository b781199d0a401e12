-- The law is the lemma on all that events lead to.
use Rattle.laws_network.proofs.FleetOnce.{beginnings_are_harmless}
use Rattle.laws_network.proofs.fleet_law.beginnings_are_harmless.Goals as goal

pub returns : goal.returns
returns g = beginnings_are_harmless
