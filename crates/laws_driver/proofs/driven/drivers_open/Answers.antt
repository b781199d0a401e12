-- The law is the lemma on the fleet that opens with the driver.
use Rattle.laws_driver.proofs.Opening.{drivers_open}
use Rattle.laws_driver.proofs.driven.drivers_open.Goals as goal

pub returns : goal.returns
returns g = drivers_open
