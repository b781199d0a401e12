-- The law is the lemma, by the law of what is settled and the fleet that a controller can open on.
use Rattle.laws_settling.proofs.Ending.{can_end}
use Rattle.laws_settling.proofs.law.reopening_can_end.Goals as goal

pub returns : goal.returns
returns c = can_end c.numbers_may_stay.ensures c.can_settle.ensures c.can_open.ensures c.laws_hold.ensures
