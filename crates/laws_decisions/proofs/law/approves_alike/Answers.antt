-- The law is the lemma on all that events lead to.
use Rattle.laws_decisions.proofs.Decided.{approves_alike}
use Rattle.laws_decisions.proofs.law.approves_alike.Goals as goal

pub returns : goal.returns
returns g = approves_alike
