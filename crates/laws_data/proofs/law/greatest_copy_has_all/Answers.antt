-- The law is the lemma on every schedule.
use Rattle.laws_data.proofs.Laws.{greatest-copy-has-all}
use Rattle.laws_data.proofs.law.greatest_copy_has_all.Goals as goal

pub returns : goal.returns
returns g = greatest-copy-has-all
