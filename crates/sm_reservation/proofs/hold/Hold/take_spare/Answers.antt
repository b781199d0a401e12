use Rattle.std.proofs.Common.{◌∷◌, [], arith, ◌<◌, ◌^◌}
use Rattle.sm_reservation.specs.HoldView.{lists_of}
use Rattle.sm_reservation.specs.Edits.{spare_row_out}
use Rattle.sm_reservation.specs.Key.{key_of_spare}
use Rattle.sm_reservation.proofs.EditLemmas.{positive-edited, all-edited_all}
use Rattle.sm_reservation.proofs.HoldEdits.{spare_out_small}
use Rattle.sm_reservation.proofs.EditedHolds.{spares_taken, spares_lost, spare_stays_out, spare_some_out}
use Rattle.sm_reservation.proofs.hold.Hold.take_spare.Goals as goal

pub invariant_of-self : goal.invariant_of-self
invariant_of-self c =
    let r = lists_of c.self.inside in
    let y = c.args.spare in
    let lost = spares_lost r (y ∷ []) c.edit.ensures.order c.self.invariant.positive.spare (rw (← c.self.view_is) at c.requires.enough, tt) in
    record {
      positive = record { room = c.self.invariant.positive.room; spare = rw c.edit.ensures.items (positive-edited key_of_spare spare_row_out (λ x. x.amount) y r.spare (λ held z e. spare_some_out held y z e) c.self.invariant.positive.spare) };
      bounded = record { room = c.self.invariant.bounded.room; spare = rw c.edit.ensures.items (all-edited_all key_of_spare spare_row_out (λ x. x.amount < 2 ^ 64) r.spare (y ∷ []) spare_stays_out c.edit.ensures.order spare_out_small c.self.invariant.bounded.spare) };
      fits = record { cells = c.self.invariant.fits.cells; crowns = c.self.invariant.fits.crowns; room = c.self.invariant.fits.room; spare = rw c.edit.ensures.items (omega (arith, lost, c.self.invariant.fits.spare)) };
      cells = c.self.invariant.cells;
      crowns = c.self.invariant.crowns;
      room = c.self.invariant.room;
      spare = omega (arith, c.self.invariant.spare, c.edit.ensures.capacity);
    }

pub returns-clause-rights : goal.returns-clause-rights
returns-clause-rights c =
    let y = c.args.spare in
    rw (← c.self.view_is, c.edit.ensures.items) (spares_taken (lists_of c.self.inside) (y ∷ []) c.edit.ensures.order)

pub returns-clause-len : goal.returns-clause-len
returns-clause-len c =
    let r = lists_of c.self.inside in
    let y = c.args.spare in
    let lost = spares_lost r (y ∷ []) c.edit.ensures.order c.self.invariant.positive.spare (rw (← c.self.view_is) at c.requires.enough, tt) in
    rw (← c.self.view_is, c.edit.ensures.items) (omega (arith, lost))
