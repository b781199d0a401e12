use Rattle.std.proofs.Common.{◌∷◌, [], arith, ◌<◌, ◌^◌, ◌∙◌}
use Rattle.sm_reservation.specs.HoldOf.{hold_of}
use Rattle.sm_reservation.specs.HoldView.{lists_of}
use Rattle.sm_reservation.specs.Turns.{lacks_spare}
use Rattle.sm_reservation.specs.Edits.{spare_in_word}
use Rattle.sm_reservation.specs.Key.{key_of_spare}
use Rattle.sm_reservation.proofs.EditLemmas.{positive-edited_all, all-edited_all}
use Rattle.sm_reservation.proofs.EditedHolds.{spares_put_in, spares_gained}
use Rattle.sm_reservation.proofs.HoldEdits.{spares_come, spares_in_word, spare_stays_in_word, spare_some_in_word, spare_word_small}
use Rattle.sm_reservation.proofs.WorkedIn.{one_more, amount_lacks}
use Rattle.sm_reservation.proofs.hold.Hold.put_spare.Goals as goal

pub edit-requires-clause-capacity : goal.edit-requires-clause-capacity
edit-requires-clause-capacity c =
    let r = lists_of c.self.inside in
    let y = c.args.spare in
    let few = spares_come r (y ∷ []) (tt, tt) in
    let room = one_more (lacks_spare (hold_of r) y) (c.self.inside.capacity) c.self.invariant.fits.spare (λ t. let both = amount_lacks y.amount ((hold_of r).spare y.shard) t in (rw (← c.self.view_is) at c.requires.capacity) both.0 both.1) in
    omega (arith, few, room, c.self.invariant.spare)

pub invariant_of-self : goal.invariant_of-self
invariant_of-self c =
    let r = lists_of c.self.inside in
    let y = c.args.spare in
    let items = c.edit.ensures.items ∙ spares_in_word r (y ∷ []) c.edit.ensures.order (rw (← c.self.view_is) at c.requires.fits, tt) in
    let gained = spares_gained r (y ∷ []) c.edit.ensures.order c.self.invariant.positive.spare in
    let room = one_more (lacks_spare (hold_of r) y) (c.self.inside.capacity) c.self.invariant.fits.spare (λ t. let both = amount_lacks y.amount ((hold_of r).spare y.shard) t in (rw (← c.self.view_is) at c.requires.capacity) both.0 both.1) in
    record {
      positive = record { room = c.self.invariant.positive.room; spare = rw c.edit.ensures.items (positive-edited_all key_of_spare spare_in_word (λ x. x.amount) r.spare (y ∷ []) spare_some_in_word c.self.invariant.positive.spare) };
      bounded = record { room = c.self.invariant.bounded.room; spare = rw c.edit.ensures.items (all-edited_all key_of_spare spare_in_word (λ x. x.amount < 2 ^ 64) r.spare (y ∷ []) spare_stays_in_word c.edit.ensures.order spare_word_small c.self.invariant.bounded.spare) };
      fits = record { cells = c.self.invariant.fits.cells; crowns = c.self.invariant.fits.crowns; room = c.self.invariant.fits.room; spare = rw items (omega (arith, gained, room)) };
      cells = c.self.invariant.cells;
      crowns = c.self.invariant.crowns;
      room = c.self.invariant.room;
      spare = omega (arith, c.self.invariant.spare, c.edit.ensures.capacity);
    }

pub returns-clause-rights : goal.returns-clause-rights
returns-clause-rights c =
    let r = lists_of c.self.inside in
    let y = c.args.spare in
    let items = c.edit.ensures.items ∙ spares_in_word r (y ∷ []) c.edit.ensures.order (rw (← c.self.view_is) at c.requires.fits, tt) in
    rw (← c.self.view_is, items) (spares_put_in r (y ∷ []) c.edit.ensures.order)

pub returns-clause-len : goal.returns-clause-len
returns-clause-len c =
    let r = lists_of c.self.inside in
    let y = c.args.spare in
    let items = c.edit.ensures.items ∙ spares_in_word r (y ∷ []) c.edit.ensures.order (rw (← c.self.view_is) at c.requires.fits, tt) in
    let gained = spares_gained r (y ∷ []) c.edit.ensures.order c.self.invariant.positive.spare in
    rw (← c.self.view_is, items) (omega (arith, gained))
