-- The law is the lemma on all that events lead to.
use Rattle.laws_network.proofs.Executing.{refuses_none}
use Rattle.laws_network.proofs.reopening_law.refuses_none.Goals as goal

pub returns : goal.returns
returns g = refuses_none
