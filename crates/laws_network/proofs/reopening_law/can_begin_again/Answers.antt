-- The law is the lemma on all that events lead to.
use Rattle.laws_network.proofs.Again.{can_begin_again}
use Rattle.laws_network.proofs.reopening_law.can_begin_again.Goals as goal

pub returns : goal.returns
returns g = can_begin_again
