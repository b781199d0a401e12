-- The law is the lemma on all that events lead to.
use Rattle.laws_network.proofs.Shown.{shown_is_near}
use Rattle.laws_network.proofs.law.shown_is_near.Goals as goal

pub returns : goal.returns
returns g = shown_is_near
