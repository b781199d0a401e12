-- The law is the lemma, by the laws of both parts and the fleet that is there.
use Rattle.laws_reopening.proofs.Within.{can_open}
use Rattle.laws_reopening.proofs.law.can_open.Goals as goal

pub returns : goal.returns
returns c = can_open c.laws_hold.ensures c.fleet_is_there_as.ensures
