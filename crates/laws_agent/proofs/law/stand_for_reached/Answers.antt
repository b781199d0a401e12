-- The law is the lemma.
use Rattle.laws_agent.proofs.Reached.{stand_for_reached}
use Rattle.laws_agent.proofs.law.stand_for_reached.Goals as goal

pub returns : goal.returns
returns c = stand_for_reached c.agents_are_simulated.ensures c.fleet_can_reopen.ensures
