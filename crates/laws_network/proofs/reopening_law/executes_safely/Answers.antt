-- The law is the lemma on all that events lead to.
use Rattle.laws_network.proofs.Executing.{executes_safely}
use Rattle.laws_network.proofs.reopening_law.executes_safely.Goals as goal

pub returns : goal.returns
returns g = executes_safely
