-- The laws of the fleet hold, since the fleet is one of them.
use Rattle.laws_driver.specs.Driven.{driver_setup}
use Rattle.laws_driver.proofs.driven.fleet_driven_is_safe.Goals as goal

pub returns : goal.returns
returns c x is = record {
  reached = c.fleet_is_reached.ensures (driver_setup x) x.fleet is.0;
  safe = c.fleet_is_safe.ensures (driver_setup x) x.fleet is.0;
  executes = c.executes_at_one_server.ensures (driver_setup x) x.fleet is.0;
  refuses = c.no_letter_is_refused.ensures (driver_setup x) x.fleet is.0;
  hears = c.present_is_heard.ensures (driver_setup x) x.fleet is.0;
  commits = c.only_present_commits.ensures (driver_setup x) x.fleet is.0;
  once = c.commits_once_per_number.ensures (driver_setup x) x.fleet is.0;
  up = c.commits_where_up.ensures (driver_setup x) x.fleet is.0;
  permits = c.permits_end_once.ensures (driver_setup x) x.fleet is.0;
  near = c.servers_are_near.ensures (driver_setup x) x.fleet is.0;
  recorded = c.servers_are_recorded.ensures (driver_setup x) x.fleet is.0;
  ends = c.servers_are_at_ends.ensures (driver_setup x) x.fleet is.0;
  shown = c.map_is_right.ensures (driver_setup x) x.fleet is.0;
  beginnings = c.beginnings_are_harmless.ensures (driver_setup x) x.fleet is.0;
  goes_on = c.some_fleet_can_go_on.ensures (driver_setup x) x.fleet is.0;
  finishes = c.fleet_can_finish.ensures (driver_setup x) x.fleet is.0;
}
