-- The law is the lemma on all events.
use Rattle.laws_service.proofs.Held.{service_is_controlled}
use Rattle.laws_service.proofs.law.service_is_controlled.Goals as goal

pub returns : goal.returns
returns c = service_is_controlled (record {
  controlled = c.driven_is_controlled.ensures;
  events = c.commands_are_events.ensures;
  reached = c.fleet_is_reached.ensures;
  opens = c.fleet_opens_as.ensures;
  within = c.laws_hold.ensures;
})
