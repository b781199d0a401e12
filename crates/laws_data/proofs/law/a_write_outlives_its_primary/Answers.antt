-- The law is the lemma on the play.
use Rattle.laws_data.proofs.Plays.{outlives-its-primary}
use Rattle.laws_data.proofs.law.a_write_outlives_its_primary.Goals as goal

pub returns : goal.returns
returns g = outlives-its-primary
