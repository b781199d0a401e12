-- The law is the lemma along joined events.
use Rattle.laws_service_data.proofs.NumbersLater.{duties_suffice}
use Rattle.laws_service_data.proofs.law.duties_suffice.Goals as goal

pub returns : goal.returns
returns c = duties_suffice
