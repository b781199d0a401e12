use Rattle.std.proofs.Common.{◌≡◌, ◌+◌, arith}
use Rattle.sm_reservation.specs.HoldOf.{hold_of}
use Rattle.sm_reservation.specs.Amounts.{OfRoom, OfSpare}
use Rattle.sm_verifier.proofs.steps.signal.Goals as goal

pub returns-clause-grows : goal.returns-clause-grows
returns-clause-grows c = record {
  room = λ v. let e : (hold_of c.take.new.self.rights).room v + (hold_of c.args.parcel.now).room v ≡ (hold_of c.args.hold.now.rights).room v = c.take.ensures.sums (OfRoom v) in omega arith;
  spare = λ s. let e : (hold_of c.take.new.self.rights).spare s + (hold_of c.args.parcel.now).spare s ≡ (hold_of c.args.hold.now.rights).spare s = c.take.ensures.sums (OfSpare s) in omega arith;
}
