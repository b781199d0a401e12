-- The law is the lemma on all that events lead to.
use Rattle.laws_network.proofs.Raised.{record_is_reached}
use Rattle.laws_network.proofs.law.record_is_reached.Goals as goal

pub returns : goal.returns
returns g = record_is_reached
