-- The driver is the controller of its fleet.
use Rattle.laws_driver.proofs.driven.driven_is_safe.Goals as goal

pub returns : goal.returns
returns c x reached = c.fleet_driven_is_safe.ensures x (c.driven_is_controlled.ensures x reached)
