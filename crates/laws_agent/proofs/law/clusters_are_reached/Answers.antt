-- The law is the lemma.
use Rattle.laws_agent.proofs.First.{clusters_are_reached}
use Rattle.laws_agent.proofs.law.clusters_are_reached.Goals as goal

pub returns : goal.returns
returns c = clusters_are_reached
