-- The law is the lemma on what is kept.
use Rattle.laws_run.proofs.Renumbers.{opens_on_kept}
use Rattle.laws_run.proofs.law.opens_on_kept.Goals as goal

pub returns : goal.returns
returns g = opens_on_kept
