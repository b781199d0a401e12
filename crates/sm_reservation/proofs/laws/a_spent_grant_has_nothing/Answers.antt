use Rattle.sm_reservation.proofs.Spent.{minus_all}
use Rattle.sm_reservation.proofs.laws.a_spent_grant_has_nothing.Goals as goal

pub returns : goal.returns
returns c = minus_all
