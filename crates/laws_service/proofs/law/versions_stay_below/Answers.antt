-- The law is the lemma on all events.
use Rattle.laws_service.proofs.Held.{versions_stay_below}
use Rattle.laws_service.proofs.law.versions_stay_below.Goals as goal

pub returns : goal.returns
returns c = versions_stay_below (record {
  controlled = c.driven_is_controlled.ensures;
  events = c.commands_are_events.ensures;
  reached = c.fleet_is_reached.ensures;
  opens = c.fleet_opens_as.ensures;
  within = c.laws_hold.ensures;
})
