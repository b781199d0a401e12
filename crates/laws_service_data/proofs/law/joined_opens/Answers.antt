-- The law is the lemma on openings.
use Rattle.laws_service_data.proofs.Opening.{joined_opens}
use Rattle.laws_service_data.proofs.law.joined_opens.Goals as goal

pub returns : goal.returns
returns c = joined_opens
