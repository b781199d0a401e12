-- The law is the lemma on what is kept.
use Rattle.laws_run.proofs.Renumbers.{kept_is_renumbered}
use Rattle.laws_run.proofs.law.kept_is_renumbered.Goals as goal

pub returns : goal.returns
returns g = kept_is_renumbered
