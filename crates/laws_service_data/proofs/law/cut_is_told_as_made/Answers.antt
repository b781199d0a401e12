-- The law is the lemma along a list of events.
use Rattle.laws_service_data.proofs.CutsTold.{cut_is_told}
use Rattle.laws_service_data.proofs.law.cut_is_told_as_made.Goals as goal

pub returns : goal.returns
returns c = cut_is_told
