-- The law is the lemma on all that events lead to.
use Rattle.laws_network.proofs.Raised.{serves_where_up}
use Rattle.laws_network.proofs.law.serves_where_up.Goals as goal

pub returns : goal.returns
returns g = serves_where_up
