-- The law is the lemma on all that events lead to.
use Rattle.laws_network.proofs.Executing.{told_is_had}
use Rattle.laws_network.proofs.reopening_law.told_is_had.Goals as goal

pub returns : goal.returns
returns g = told_is_had
