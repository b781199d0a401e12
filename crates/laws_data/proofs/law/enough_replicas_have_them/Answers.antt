-- The law is the lemma on every schedule.
use Rattle.laws_data.proofs.Laws.{enough-have-them}
use Rattle.laws_data.proofs.law.enough_replicas_have_them.Goals as goal

pub returns : goal.returns
returns g = enough-have-them
