use Rattle.sm_reservation.proofs.trades.join_parcel.Goals as goal

pub returns-clause-sums : goal.returns-clause-sums
returns-clause-sums c r = rw (c.cells.ensures.value, c.crowns.ensures.value, c.room.ensures.value, c.spare.ensures.value) at (c.join_rights.ensures.sums r)
