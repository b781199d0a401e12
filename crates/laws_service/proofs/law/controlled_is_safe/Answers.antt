-- The laws of the service hold, since the service is one of them.
use Rattle.laws_service.specs.ControlledLaws.{service_of}
use Rattle.laws_service.proofs.Safe.{fleet_is_safe}
use Rattle.laws_service.proofs.law.controlled_is_safe.Goals as goal

pub returns : goal.returns
returns c x reached = let is = c.service_is_controlled.ensures x reached in record {
  fleet = fleet_is_safe c.driven_is_safe.ensures x is.1;
  safe = c.service_is_safe.ensures (service_of x) is.0;
  permits = c.permit_ends_once.ensures (service_of x) is.0;
  orders = c.order_acts_once.ensures (service_of x) is.0;
  old_orders = c.old_orders_rest.ensures (service_of x) is.0;
}
