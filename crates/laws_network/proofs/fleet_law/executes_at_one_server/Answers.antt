-- The law is the lemma on all that events lead to.
use Rattle.laws_network.proofs.FleetSafety.{executes_at_one_server}
use Rattle.laws_network.proofs.fleet_law.executes_at_one_server.Goals as goal

pub returns : goal.returns
returns g = executes_at_one_server
