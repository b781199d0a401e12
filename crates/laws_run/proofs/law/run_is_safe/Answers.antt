-- The law is the lemma.
use Rattle.laws_run.proofs.Runs.{run_is_safe}
use Rattle.laws_run.proofs.law.run_is_safe.Goals as goal

pub returns : goal.returns
returns c = run_is_safe c.fleet_is_reached.ensures c.replays_agree.ensures c.fleet_driven_is_safe.ensures
