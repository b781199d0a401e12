-- The law is the lemma on the play.
use Rattle.laws_data.proofs.Plays.{leaves-without-primary}
use Rattle.laws_data.proofs.law.a_replica_leaves_without_a_primary.Goals as goal

pub returns : goal.returns
returns g = leaves-without-primary
