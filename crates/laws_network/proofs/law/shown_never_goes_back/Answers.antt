-- The law is the lemma on all that events lead to.
use Rattle.laws_network.proofs.Shown.{shown_never_goes_back}
use Rattle.laws_network.proofs.law.shown_never_goes_back.Goals as goal

pub returns : goal.returns
returns g = shown_never_goes_back
