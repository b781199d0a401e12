-- The law is the lemma on all that events lead to.
use Rattle.laws_network.proofs.Raised.{real_is_near}
use Rattle.laws_network.proofs.law.real_is_near.Goals as goal

pub returns : goal.returns
returns g = real_is_near
