-- The law is the lemma on openings.
use Rattle.laws_service.proofs.Possible.{controlled_opens}
use Rattle.laws_service.proofs.law.controlled_opens.Goals as goal

pub returns : goal.returns
returns c = controlled_opens c.drivers_open.ensures
