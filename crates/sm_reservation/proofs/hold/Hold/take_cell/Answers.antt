use Rattle.std.proofs.Common.{◌∷◌, [], arith}
use Rattle.sm_reservation.specs.declared.right.CellRight.{CellRight}
use Rattle.sm_reservation.specs.declared.right.PlainCell.TheVariants.{Absent}
use Rattle.sm_reservation.specs.HoldView.{lists_of}
use Rattle.sm_reservation.proofs.EditedHolds.{cells_taken, cells_lost}
use Rattle.sm_reservation.proofs.hold.Hold.take_cell.Goals as goal

pub invariant_of-self : goal.invariant_of-self
invariant_of-self c =
    let r = lists_of c.self.inside in
    let y : CellRight = record { shard = c.args.shard; server = c.args.server; state = Absent } in
    let lost = cells_lost r (y ∷ []) c.edit.ensures.order in
    record {
      positive = record { room = c.self.invariant.positive.room; spare = c.self.invariant.positive.spare };
      bounded = record { room = c.self.invariant.bounded.room; spare = c.self.invariant.bounded.spare };
      fits = record { cells = rw c.edit.ensures.items (omega (arith, lost, c.self.invariant.fits.cells)); crowns = c.self.invariant.fits.crowns; room = c.self.invariant.fits.room; spare = c.self.invariant.fits.spare };
      cells = omega (arith, c.self.invariant.cells, c.edit.ensures.capacity);
      crowns = c.self.invariant.crowns;
      room = c.self.invariant.room;
      spare = c.self.invariant.spare;
    }

pub returns-clause-rights : goal.returns-clause-rights
returns-clause-rights c =
    let y : CellRight = record { shard = c.args.shard; server = c.args.server; state = Absent } in
    rw (← c.self.view_is, c.edit.ensures.items) (cells_taken (lists_of c.self.inside) (y ∷ []) c.edit.ensures.order)

pub returns-clause-len : goal.returns-clause-len
returns-clause-len c =
    let r = lists_of c.self.inside in
    let y : CellRight = record { shard = c.args.shard; server = c.args.server; state = Absent } in
    let lost = cells_lost r (y ∷ []) c.edit.ensures.order in
    rw (← c.self.view_is, c.edit.ensures.items) (omega (arith, lost))
