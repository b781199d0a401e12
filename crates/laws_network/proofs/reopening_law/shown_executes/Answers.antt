-- The law is the lemma on all that events lead to.
use Rattle.laws_network.proofs.Executing.{shown_executes}
use Rattle.laws_network.proofs.reopening_law.shown_executes.Goals as goal

pub returns : goal.returns
returns g = shown_executes
