-- The law is the lemma on all that events lead to.
use Rattle.laws_decisions.proofs.Told.{effects_are_told}
use Rattle.laws_decisions.proofs.law.effects_are_told.Goals as goal

pub returns : goal.returns
returns g = effects_are_told
