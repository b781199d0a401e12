-- The law is the lemma on all that events lead to.
use Rattle.laws_network.proofs.Raised.{is_once}
use Rattle.laws_network.proofs.law.is_once.Goals as goal

pub returns : goal.returns
returns g = is_once
