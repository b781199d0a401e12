-- The law is the lemma.
use Rattle.laws_session.proofs.Equivalence.{alike_is_equivalence}
use Rattle.laws_session.proofs.replays.alike_is_equivalence.Goals as goal

pub returns : goal.returns
returns c = alike_is_equivalence
