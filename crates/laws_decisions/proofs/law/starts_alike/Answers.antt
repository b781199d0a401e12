-- The law is the lemma on all that events lead to.
use Rattle.laws_decisions.proofs.Decided.{starts_alike}
use Rattle.laws_decisions.proofs.law.starts_alike.Goals as goal

pub returns : goal.returns
returns g = starts_alike
