-- The law is the lemma on all that events lead to.
use Rattle.laws_network.proofs.Opens.{opens_with_past}
use Rattle.laws_network.proofs.reopening_law.opens_with_past.Goals as goal

pub returns : goal.returns
returns g = opens_with_past
