-- The law is the lemma on who has lost its slots.
use Rattle.laws_reopening.proofs.FloorRules.{rules_keep_floors}
use Rattle.laws_reopening.proofs.law.rules_keep_floors.Goals as goal

pub returns : goal.returns
returns c = rules_keep_floors c.fleet_is_safe.ensures
