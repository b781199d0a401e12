-- The law is the lemma on all that events lead to.
use Rattle.laws_network.proofs.Raised.{executes_where_serving}
use Rattle.laws_network.proofs.law.executes_where_serving.Goals as goal

pub returns : goal.returns
returns g = executes_where_serving
