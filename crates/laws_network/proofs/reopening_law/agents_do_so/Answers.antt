-- The law is the lemma on agents.
use Rattle.laws_network.proofs.Agents.{agents_do_so}
use Rattle.laws_network.proofs.reopening_law.agents_do_so.Goals as goal

pub returns : goal.returns
returns g = agents_do_so
