-- A grant goes back, which fits beside what the pool has.
use Rattle.std.proofs.Common.{subst}
use Rattle.sm_reservation.specs.Amounts.{count}
use Rattle.sm_machine.specs.Course.{hold_in}
use Rattle.sm_machine.specs.Returns.{CanTakeBack}
use Rattle.sm_machine.proofs.Returns.{known, fits}
use Rattle.sm_machine.proofs.stream.give_back.Goals as goal

pub give_back-requires-clause-below : goal.give_back-requires-clause-below
give_back-requires-clause-below c = known _ _ (subst (λ g. CanTakeBack c.args.pool.now (count (hold_in g))) c.in-Some.is c.requires)

pub give_back-requires-clause-fits : goal.give_back-requires-clause-fits
give_back-requires-clause-fits c = fits _ _ (subst (λ g. CanTakeBack c.args.pool.now (count (hold_in g))) c.in-Some.is c.requires)
