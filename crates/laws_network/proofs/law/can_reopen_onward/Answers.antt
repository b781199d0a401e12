-- The law is the lemma on all that events lead to.
use Rattle.laws_network.proofs.GoingOn.{can_reopen_onward}
use Rattle.laws_network.proofs.law.can_reopen_onward.Goals as goal

pub returns : goal.returns
returns g = can_reopen_onward
