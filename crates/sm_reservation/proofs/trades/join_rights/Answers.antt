use Rattle.sm_reservation.specs.Key.{lists}
use Rattle.sm_reservation.specs.HoldOf.{hold_of}
use Rattle.sm_reservation.proofs.ParcelSums.{plus_count, apart_of}
use Rattle.sm_reservation.proofs.ParcelRows.{rooms_fit, spares_fit}
use Rattle.sm_reservation.proofs.trades.join_rights.Goals as goal

pub put_rights-requires-clause-sums : goal.put_rights-requires-clause-sums
put_rights-requires-clause-sums c =
    let p = lists c.args.cells.now c.args.crowns.now c.args.rooms.now c.args.spares.now in
    record { room = rooms_fit (hold_of c.args.hold.now.rights) p c.requires.order c.requires.fits; spare = spares_fit (hold_of c.args.hold.now.rights) p c.requires.order c.requires.fits }

pub returns-clause-sums : goal.returns-clause-sums
returns-clause-sums c r = rw c.put_rights.ensures.rights (plus_count (hold_of c.args.hold.now.rights) (lists c.args.cells.now c.args.crowns.now c.args.rooms.now c.args.spares.now) c.requires.order (apart_of (hold_of c.args.hold.now.rights) (hold_of (lists c.args.cells.now c.args.crowns.now c.args.rooms.now c.args.spares.now)) c.requires.fits) r)
