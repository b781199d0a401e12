-- The law is the lemma.
use Rattle.laws_run.proofs.Floors.{floors_hold}
use Rattle.laws_run.proofs.law.true_lines_keep_floors.Goals as goal

pub returns : goal.returns
returns c = floors_hold c.fleet_is_reached.ensures c.replays_agree.ensures c.rules_keep_floors.ensures
