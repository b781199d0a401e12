-- The law is the lemma along events of the fleet.
use Rattle.laws_service_data.proofs.LeadNumbers.{lead_numbers_rise}
use Rattle.laws_service_data.proofs.law.lead_numbers_rise.Goals as goal

pub returns : goal.returns
returns c = lead_numbers_rise
