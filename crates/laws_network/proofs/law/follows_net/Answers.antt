-- The law is the lemma on all that events lead to.
use Rattle.laws_network.proofs.Shown.{follows_net}
use Rattle.laws_network.proofs.law.follows_net.Goals as goal

pub returns : goal.returns
returns g = follows_net
