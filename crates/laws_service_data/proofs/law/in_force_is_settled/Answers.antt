-- The law is the lemma on what servers have, by the laws of settlements in force.
use Rattle.laws_service_data.proofs.InForce.{in_force_is_settled}
use Rattle.laws_service_data.proofs.law.in_force_is_settled.Goals as goal

pub returns : goal.returns
returns c = in_force_is_settled c.fleet_opens_in_force.ensures c.opens_with_past.ensures
