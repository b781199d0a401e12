-- The law is the lemma on all that events lead to.
use Rattle.laws_network.proofs.OfFleet.{no_letter_is_refused}
use Rattle.laws_network.proofs.fleet_law.no_letter_is_refused.Goals as goal

pub returns : goal.returns
returns g = no_letter_is_refused
