-- The law is the lemma on each event.
use Rattle.laws_agent.proofs.Simulated.{agents_are_simulated}
use Rattle.laws_agent.proofs.law.agents_are_simulated.Goals as goal

pub returns : goal.returns
returns c = agents_are_simulated c.agents_do_so.ensures c.refuses_none.ensures
