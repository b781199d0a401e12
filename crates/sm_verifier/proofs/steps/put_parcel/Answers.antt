use Rattle.sm_reservation.specs.HoldOf.{hold_of}
use Rattle.sm_verifier.proofs.Growth.{plus_grows}
use Rattle.sm_verifier.proofs.steps.put_parcel.Goals as goal

pub returns-clause-grows : goal.returns-clause-grows
returns-clause-grows c =
    let room = rw c.room-room.ensures.value at c.room-room.ensures.order in
    let spare = rw c.spare-spare.ensures.value at c.spare-spare.ensures.order in
    rw c.put.ensures.rights (plus_grows (hold_of c.args.hold.now.rights) c.args.parcel.now room spare c.requires.small)
