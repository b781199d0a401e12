-- The law is the lemma.
use Rattle.sm_copies.proofs.Laws.{acknowledges-one-position}
use Rattle.sm_copies.proofs.law.acknowledges_one_position.Goals as goal

pub returns : goal.returns
returns g = acknowledges-one-position
