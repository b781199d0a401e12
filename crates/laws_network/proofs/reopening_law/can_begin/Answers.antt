-- The law is the lemma on the beginning.
use Rattle.laws_network.proofs.Begun.{can_begin}
use Rattle.laws_network.proofs.reopening_law.can_begin.Goals as goal

pub returns : goal.returns
returns g = can_begin
