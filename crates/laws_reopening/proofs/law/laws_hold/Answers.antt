-- The law is the lemma on all that events lead to.
use Rattle.laws_reopening.proofs.Within.{within_laws}
use Rattle.laws_reopening.proofs.law.laws_hold.Goals as goal

pub returns : goal.returns
returns c = within_laws c.fleet_opens_as.ensures
