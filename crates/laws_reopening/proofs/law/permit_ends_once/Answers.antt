-- The law is the lemma on what was counted.
use Rattle.laws_reopening.proofs.PermitEnds.{permits_end_once}
use Rattle.laws_reopening.proofs.law.permit_ends_once.Goals as goal

pub returns : goal.returns
returns c = permits_end_once c.permits_end_once.ensures c.fleet_opens_as.ensures
