-- The law is the lemma on what was counted, from the opening on.
use Rattle.laws_reopening.proofs.OrderedRuns.{old_orders_rest}
use Rattle.laws_reopening.proofs.law.old_orders_rest.Goals as goal

pub returns : goal.returns
returns c = old_orders_rest c.fleet_opens_as.ensures
