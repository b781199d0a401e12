-- The law puts those of the fleet and of reopenings together.
use Rattle.laws_reopening.proofs.Within.{service_is_safe}
use Rattle.laws_reopening.proofs.law.service_is_safe.Goals as goal

pub returns : goal.returns
returns c = service_is_safe c.fleet_opens_as.ensures (record {
  safe = c.fleet_is_safe.ensures;
  executes = c.executes_at_one_server.ensures;
  refuses = c.no_letter_is_refused.ensures;
  shown = c.map_is_right.ensures;
  goes_on = c.some_fleet_can_go_on.ensures;
  loads = c.loads_fit.ensures;
  floors_before = c.floors_remain.ensures;
  floors = c.floors_stay.ensures;
  settling_executes = c.executes_safely.ensures;
  settling_refuses = c.refuses_none.ensures;
  settling_shows = c.shown_executes.ensures;
})
