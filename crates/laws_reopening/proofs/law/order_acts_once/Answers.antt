-- The law is the lemma on what was counted.
use Rattle.laws_reopening.proofs.OrderedRuns.{order_acts_once}
use Rattle.laws_reopening.proofs.law.order_acts_once.Goals as goal

pub returns : goal.returns
returns c = order_acts_once c.fleet_opens_as.ensures
