-- The law is the lemma over all epochs.
use Rattle.laws_service_data.proofs.NumbersLater.{rules_suffice}
use Rattle.laws_service_data.proofs.law.rules_suffice.Goals as goal

pub returns : goal.returns
returns c = rules_suffice
