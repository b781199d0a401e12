-- The law is the lemma on all that events lead to.
use Rattle.laws_network.proofs.Finish.{can_finish}
use Rattle.laws_network.proofs.law.can_finish.Goals as goal

pub returns : goal.returns
returns g = can_finish
