-- The law is the lemma on a configuration's own order.
use Rattle.laws_reopening.proofs.Renumbered.{numbers_may_stay}
use Rattle.laws_reopening.proofs.in_force.numbers_may_stay.Goals as goal

pub returns : goal.returns
returns g = numbers_may_stay
