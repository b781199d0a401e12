-- The law is the lemma on openings in new numbers.
use Rattle.laws_reopening.proofs.Renumbered.{fleet_is_there_as}
use Rattle.laws_reopening.proofs.in_force.fleet_is_there_as.Goals as goal

pub returns : goal.returns
returns c = fleet_is_there_as c.opens_with_past.ensures
