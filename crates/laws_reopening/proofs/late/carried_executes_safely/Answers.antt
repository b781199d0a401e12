-- The law is the lemma, by what an agent executes and by the safety of the fleet.
use Rattle.laws_reopening.proofs.Carried.{carried_executes_safely}
use Rattle.laws_reopening.proofs.late.carried_executes_safely.Goals as goal

pub returns : goal.returns
returns c = carried_executes_safely c.executes_at_owner.ensures c.fleet_is_safe.ensures
