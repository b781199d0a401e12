-- The law is the lemma.
use Rattle.laws_agent.proofs.Reached.{have_settlement}
use Rattle.laws_agent.proofs.law.have_settlement.Goals as goal

pub returns : goal.returns
returns c = have_settlement c.stand_for_reached.ensures c.opens_with_past.ensures
