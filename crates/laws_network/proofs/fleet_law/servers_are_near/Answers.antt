-- The law is the lemma on all that events lead to.
use Rattle.laws_network.proofs.FleetOnce.{servers_are_near}
use Rattle.laws_network.proofs.fleet_law.servers_are_near.Goals as goal

pub returns : goal.returns
returns g = servers_are_near
