-- The law is the lemma on all that events lead to.
use Rattle.laws_network.proofs.GoingOn.{can_finish_onward}
use Rattle.laws_network.proofs.law.can_finish_onward.Goals as goal

pub returns : goal.returns
returns g = can_finish_onward
