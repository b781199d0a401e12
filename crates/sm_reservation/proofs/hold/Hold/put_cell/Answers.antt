use Rattle.std.proofs.Common.{◌∷◌, [], arith}
use Rattle.sm_reservation.specs.HoldOf.{hold_of}
use Rattle.sm_reservation.specs.HoldView.{lists_of}
use Rattle.sm_reservation.specs.Turns.{lacks_cell}
use Rattle.sm_reservation.proofs.EditedHolds.{cells_put_in, cells_gained}
use Rattle.sm_reservation.proofs.HoldEdits.{cells_come}
use Rattle.sm_reservation.proofs.FitLemmas.{none_of}
use Rattle.sm_reservation.proofs.WorkedIn.{one_more}
use Rattle.sm_reservation.proofs.hold.Hold.put_cell.Goals as goal

pub edit-requires-clause-capacity : goal.edit-requires-clause-capacity
edit-requires-clause-capacity c =
    let r = lists_of c.self.inside in
    let y = c.args.right in
    let few = cells_come r (y ∷ []) (tt, tt) in
    let room = one_more (lacks_cell (hold_of r) y) (c.self.inside.capacity) c.self.invariant.fits.cells (λ t. (rw (← c.self.view_is) at c.requires.capacity) (none_of _ t)) in
    omega (arith, few, room, c.self.invariant.cells)

pub invariant_of-self : goal.invariant_of-self
invariant_of-self c =
    let r = lists_of c.self.inside in
    let y = c.args.right in
    let gained = cells_gained r (y ∷ []) c.edit.ensures.order in
    let room = one_more (lacks_cell (hold_of r) y) (c.self.inside.capacity) c.self.invariant.fits.cells (λ t. (rw (← c.self.view_is) at c.requires.capacity) (none_of _ t)) in
    record {
      positive = record { room = c.self.invariant.positive.room; spare = c.self.invariant.positive.spare };
      bounded = record { room = c.self.invariant.bounded.room; spare = c.self.invariant.bounded.spare };
      fits = record { cells = rw c.edit.ensures.items (omega (arith, gained, room)); crowns = c.self.invariant.fits.crowns; room = c.self.invariant.fits.room; spare = c.self.invariant.fits.spare };
      cells = omega (arith, c.self.invariant.cells, c.edit.ensures.capacity);
      crowns = c.self.invariant.crowns;
      room = c.self.invariant.room;
      spare = c.self.invariant.spare;
    }

pub returns-clause-rights : goal.returns-clause-rights
returns-clause-rights c =
    let r = lists_of c.self.inside in
    let y = c.args.right in
    rw (← c.self.view_is, c.edit.ensures.items) (cells_put_in r (y ∷ []) c.edit.ensures.order)

pub returns-clause-len : goal.returns-clause-len
returns-clause-len c =
    let r = lists_of c.self.inside in
    let y = c.args.right in
    let gained = cells_gained r (y ∷ []) c.edit.ensures.order in
    rw (← c.self.view_is, c.edit.ensures.items) (omega (arith, gained))
