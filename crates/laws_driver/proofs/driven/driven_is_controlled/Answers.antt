-- The law is the lemma on turns.
use Rattle.laws_driver.proofs.Turns.{driven_is_controlled}
use Rattle.laws_driver.proofs.driven.driven_is_controlled.Goals as goal

pub returns : goal.returns
returns c = driven_is_controlled c.fleet_is_reached.ensures
