use Rattle.sm_reservation.proofs.TradeLemmas.{slice_is}
use Rattle.sm_reservation.proofs.trades.take_portion.Goals as goal

pub returns-clause-sums : goal.returns-clause-sums
returns-clause-sums c r =
    let cells = slice_is _ _ c.as_slice-cells.ensures in
    let crowns = slice_is _ _ c.as_slice-crowns.ensures in
    let rooms = slice_is _ _ c.as_slice-rooms.ensures in
    let spares = slice_is _ _ c.as_slice-spares.ensures in
    rw (cells, crowns, rooms, spares) at (c.take_rights.ensures.sums r)
