-- The law is the lemma.
use Rattle.laws_driver.proofs.StayAlike.{open_alike}
use Rattle.laws_driver.proofs.replicas.replicas_open_alike.Goals as goal

pub returns : goal.returns
returns c = open_alike
