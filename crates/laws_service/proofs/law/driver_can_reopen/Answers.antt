-- The law is the lemma on reopenings.
use Rattle.laws_service.proofs.Possible.{driver_can_reopen}
use Rattle.laws_service.proofs.law.driver_can_reopen.Goals as goal

pub returns : goal.returns
returns c = driver_can_reopen c.service_is_controlled.ensures c.fleet_can_reopen.ensures c.laws_hold.ensures
