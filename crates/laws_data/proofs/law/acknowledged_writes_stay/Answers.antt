-- The law is the lemma on every schedule.
use Rattle.laws_data.proofs.Laws.{acknowledged-writes-stay}
use Rattle.laws_data.proofs.law.acknowledged_writes_stay.Goals as goal

pub returns : goal.returns
returns g = acknowledged-writes-stay
