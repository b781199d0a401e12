-- The law is the lemma on all that events lead to.
use Rattle.laws_network.proofs.Raised.{some_can_go_on}
use Rattle.laws_network.proofs.law.some_can_go_on.Goals as goal

pub returns : goal.returns
returns g = some_can_go_on
