-- The law is the lemma on all that events lead to.
use Rattle.laws_network.proofs.Raised.{none_is_refused}
use Rattle.laws_network.proofs.law.none_is_refused.Goals as goal

pub returns : goal.returns
returns g = none_is_refused
