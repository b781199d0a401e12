-- The law is the lemma.
use Rattle.laws_run.proofs.Fresh.{runs_begin}
use Rattle.laws_run.proofs.law.runs_begin.Goals as goal

pub returns : goal.returns
returns c = runs_begin c.drivers_open.ensures
