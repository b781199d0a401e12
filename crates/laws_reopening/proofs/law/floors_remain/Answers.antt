-- The law is the lemma on what servers have until a settlement is confirmed.
use Rattle.laws_reopening.proofs.Remaining.{floors_remain}
use Rattle.laws_reopening.proofs.law.floors_remain.Goals as goal

pub returns : goal.returns
returns g = floors_remain
