-- The law is the lemma on all that events lead to.
use Rattle.laws_network.proofs.OfFleet.{present_is_heard}
use Rattle.laws_network.proofs.fleet_law.present_is_heard.Goals as goal

pub returns : goal.returns
returns g = present_is_heard
