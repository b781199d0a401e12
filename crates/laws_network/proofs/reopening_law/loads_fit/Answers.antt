-- The law is the lemma on all that events lead to.
use Rattle.laws_network.proofs.Executing.{loads_fit}
use Rattle.laws_network.proofs.reopening_law.loads_fit.Goals as goal

pub returns : goal.returns
returns g = loads_fit
