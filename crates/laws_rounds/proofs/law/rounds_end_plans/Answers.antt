-- The law is the lemma on rounds, by the laws that no order is refused and that some stream can go on.
use Rattle.laws_rounds.proofs.Rounds.{rounds_end_plans}
use Rattle.laws_rounds.proofs.law.rounds_end_plans.Goals as goal

pub returns : goal.returns
returns c = rounds_end_plans c.no_letter_is_refused.ensures c.some_fleet_can_go_on.ensures
