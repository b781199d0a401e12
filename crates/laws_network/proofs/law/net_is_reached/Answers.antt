-- The law is the lemma on all that events lead to.
use Rattle.laws_network.proofs.Shown.{net_is_reached}
use Rattle.laws_network.proofs.law.net_is_reached.Goals as goal

pub returns : goal.returns
returns g = net_is_reached
