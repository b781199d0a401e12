-- The law is the lemma along joined events.
use Rattle.laws_service_data.proofs.NumbersLater.{numbers_later}
use Rattle.laws_service_data.proofs.law.numbers_are_later.Goals as goal

pub returns : goal.returns
returns c = numbers_later
