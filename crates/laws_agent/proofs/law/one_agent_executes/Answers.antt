-- The law is the lemma.
use Rattle.laws_agent.proofs.Reached.{one_agent_executes}
use Rattle.laws_agent.proofs.law.one_agent_executes.Goals as goal

pub returns : goal.returns
returns c = one_agent_executes c.agents_are_simulated.ensures c.stand_for_reached.ensures c.executes_safely.ensures c.shown_executes.ensures
