use Rattle.std.proofs.Common.{sym, ◌∙◌}
use Rattle.sm_reservation.specs.HoldOf.{hold_of}
use Rattle.sm_reservation.proofs.Below.{below_taken}
use Rattle.sm_reservation.proofs.grant.Grant.split.Goals as goal

pub returns-clause-below : goal.returns-clause-below
returns-clause-below c = λ shards servers is. below_taken shards servers (hold_of c.args.self.now.rights) c.args.parcel.now (rw c.self.view_is at (sym c.first_short.ensures ∙ c.in_default.is)) is
