-- The law is the lemma.
use Rattle.laws_run.proofs.Runs.{lines_go_on}
use Rattle.laws_run.proofs.law.lines_go_on.Goals as goal

pub returns : goal.returns
returns c = lines_go_on c.fleet_is_reached.ensures c.replays_agree.ensures c.answers_have_entries.ensures
