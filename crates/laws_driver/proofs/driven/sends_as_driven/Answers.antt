-- The law is the lemma on the controller that the driver is.
use Rattle.laws_driver.proofs.Sends.{sends_as_driven}
use Rattle.laws_driver.proofs.driven.sends_as_driven.Goals as goal

pub returns : goal.returns
returns c = sends_as_driven c.driven_is_controlled.ensures
