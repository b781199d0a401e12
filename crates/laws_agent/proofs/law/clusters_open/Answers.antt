-- The law is the lemma.
use Rattle.laws_agent.proofs.Opening.{clusters_open}
use Rattle.laws_agent.proofs.law.clusters_open.Goals as goal

pub returns : goal.returns
returns c = clusters_open c.fleet_can_reopen.ensures
