-- The law is the lemma on fleets in force.
use Rattle.laws_service.proofs.Possible.{driver_can_open}
use Rattle.laws_service.proofs.law.driver_can_open.Goals as goal

pub returns : goal.returns
returns c = driver_can_open c.service_is_controlled.ensures c.laws_hold.ensures c.fleet_is_there_as.ensures c.opened_controls.ensures
