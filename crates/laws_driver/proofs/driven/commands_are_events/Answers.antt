-- The law is the lemma on what a command writes.
use Rattle.laws_driver.proofs.Turns.{commands_are_events}
use Rattle.laws_driver.proofs.driven.commands_are_events.Goals as goal

pub returns : goal.returns
returns c = commands_are_events c.driven_is_controlled.ensures c.fleet_is_reached.ensures
