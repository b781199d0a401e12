-- The law is the lemma on all that events lead to.
use Rattle.laws_network.proofs.GoingOn.{some_can_go_onward}
use Rattle.laws_network.proofs.law.some_can_go_onward.Goals as goal

pub returns : goal.returns
returns g = some_can_go_onward
