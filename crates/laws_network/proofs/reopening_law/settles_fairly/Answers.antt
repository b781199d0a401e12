-- The law is the lemma on what may be settled.
use Rattle.laws_network.proofs.Fair.{settles_fairly}
use Rattle.laws_network.proofs.reopening_law.settles_fairly.Goals as goal

pub returns : goal.returns
returns g = settles_fairly
