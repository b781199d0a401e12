use Rattle.std.proofs.Common.{◌∷◌, [], arith, ◌<◌, ◌^◌}
use Rattle.sm_reservation.specs.HoldView.{lists_of}
use Rattle.sm_reservation.specs.Edits.{room_row_out}
use Rattle.sm_reservation.specs.Key.{key_of_room}
use Rattle.sm_reservation.proofs.EditLemmas.{positive-edited, all-edited_all}
use Rattle.sm_reservation.proofs.HoldEdits.{room_out_small}
use Rattle.sm_reservation.proofs.EditedHolds.{rooms_taken, rooms_lost, room_stays_out, room_some_out}
use Rattle.sm_reservation.proofs.hold.Hold.take_room.Goals as goal

pub invariant_of-self : goal.invariant_of-self
invariant_of-self c =
    let r = lists_of c.self.inside in
    let y = c.args.room in
    let lost = rooms_lost r (y ∷ []) c.edit.ensures.order c.self.invariant.positive.room (rw (← c.self.view_is) at c.requires.enough, tt) in
    record {
      positive = record { room = rw c.edit.ensures.items (positive-edited key_of_room room_row_out (λ x. x.amount) y r.room (λ held z e. room_some_out held y z e) c.self.invariant.positive.room); spare = c.self.invariant.positive.spare };
      bounded = record { room = rw c.edit.ensures.items (all-edited_all key_of_room room_row_out (λ x. x.amount < 2 ^ 64) r.room (y ∷ []) room_stays_out c.edit.ensures.order room_out_small c.self.invariant.bounded.room); spare = c.self.invariant.bounded.spare };
      fits = record { cells = c.self.invariant.fits.cells; crowns = c.self.invariant.fits.crowns; room = rw c.edit.ensures.items (omega (arith, lost, c.self.invariant.fits.room)); spare = c.self.invariant.fits.spare };
      cells = c.self.invariant.cells;
      crowns = c.self.invariant.crowns;
      room = omega (arith, c.self.invariant.room, c.edit.ensures.capacity);
      spare = c.self.invariant.spare;
    }

pub returns-clause-rights : goal.returns-clause-rights
returns-clause-rights c =
    let y = c.args.room in
    rw (← c.self.view_is, c.edit.ensures.items) (rooms_taken (lists_of c.self.inside) (y ∷ []) c.edit.ensures.order)

pub returns-clause-len : goal.returns-clause-len
returns-clause-len c =
    let r = lists_of c.self.inside in
    let y = c.args.room in
    let lost = rooms_lost r (y ∷ []) c.edit.ensures.order c.self.invariant.positive.room (rw (← c.self.view_is) at c.requires.enough, tt) in
    rw (← c.self.view_is, c.edit.ensures.items) (omega (arith, lost))
