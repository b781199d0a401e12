-- The law is the lemma.
use Rattle.sm_driver.proofs.Alike.{go_alike}
use Rattle.sm_driver.proofs.law.drivers_go_alike.Goals as goal

pub returns : goal.returns
returns c = go_alike
