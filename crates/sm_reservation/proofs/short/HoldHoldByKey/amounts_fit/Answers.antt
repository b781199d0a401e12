use Rattle.sm_reservation.proofs.FitLemmas.{amounts_within}
use Rattle.sm_reservation.proofs.short.HoldHoldByKey.amounts_fit.Goals as goal

pub returns-clause-room : goal.returns-clause-room
returns-clause-room c = (amounts_within c.args.self.now.rights c.rights_in_order.ensures.bounded).0

pub returns-clause-spare : goal.returns-clause-spare
returns-clause-spare c = (amounts_within c.args.self.now.rights c.rights_in_order.ensures.bounded).1
