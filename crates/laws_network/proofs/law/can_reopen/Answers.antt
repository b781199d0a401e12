-- The law is the lemma on all that events lead to.
use Rattle.laws_network.proofs.Raised.{can_reopen}
use Rattle.laws_network.proofs.law.can_reopen.Goals as goal

pub returns : goal.returns
returns g = can_reopen
