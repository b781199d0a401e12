-- The law is the lemma on what is followed, with the opening that comes of it.
use Rattle.laws_reopening.proofs.Kept.{floors_stay}
use Rattle.laws_reopening.proofs.law.floors_stay.Goals as goal

pub returns : goal.returns
returns c = floors_stay c.opens_with_past.ensures
