-- The law is the lemma on the play.
use Rattle.laws_data.proofs.Plays.{succeeds-its-primary}
use Rattle.laws_data.proofs.law.a_secondary_succeeds_its_primary.Goals as goal

pub returns : goal.returns
returns g = succeeds-its-primary
