use Rattle.std.proofs.Common.{◌∷◌, [], arith, ◌<◌, ◌^◌, ◌∙◌}
use Rattle.sm_reservation.specs.HoldOf.{hold_of}
use Rattle.sm_reservation.specs.HoldView.{lists_of}
use Rattle.sm_reservation.specs.Turns.{lacks_room}
use Rattle.sm_reservation.specs.Edits.{room_in_word}
use Rattle.sm_reservation.specs.Key.{key_of_room}
use Rattle.sm_reservation.proofs.EditLemmas.{positive-edited_all, all-edited_all}
use Rattle.sm_reservation.proofs.EditedHolds.{rooms_put_in, rooms_gained}
use Rattle.sm_reservation.proofs.HoldEdits.{rooms_come, rooms_in_word, room_stays_in_word, room_some_in_word, room_word_small}
use Rattle.sm_reservation.proofs.WorkedIn.{one_more, amount_lacks}
use Rattle.sm_reservation.proofs.hold.Hold.put_room.Goals as goal

pub edit-requires-clause-capacity : goal.edit-requires-clause-capacity
edit-requires-clause-capacity c =
    let r = lists_of c.self.inside in
    let y = c.args.room in
    let few = rooms_come r (y ∷ []) (tt, tt) in
    let room = one_more (lacks_room (hold_of r) y) (c.self.inside.capacity) c.self.invariant.fits.room (λ t. let both = amount_lacks y.amount ((hold_of r).room y.server) t in (rw (← c.self.view_is) at c.requires.capacity) both.0 both.1) in
    omega (arith, few, room, c.self.invariant.room)

pub invariant_of-self : goal.invariant_of-self
invariant_of-self c =
    let r = lists_of c.self.inside in
    let y = c.args.room in
    let items = c.edit.ensures.items ∙ rooms_in_word r (y ∷ []) c.edit.ensures.order (rw (← c.self.view_is) at c.requires.fits, tt) in
    let gained = rooms_gained r (y ∷ []) c.edit.ensures.order c.self.invariant.positive.room in
    let room = one_more (lacks_room (hold_of r) y) (c.self.inside.capacity) c.self.invariant.fits.room (λ t. let both = amount_lacks y.amount ((hold_of r).room y.server) t in (rw (← c.self.view_is) at c.requires.capacity) both.0 both.1) in
    record {
      positive = record { room = rw c.edit.ensures.items (positive-edited_all key_of_room room_in_word (λ x. x.amount) r.room (y ∷ []) room_some_in_word c.self.invariant.positive.room); spare = c.self.invariant.positive.spare };
      bounded = record { room = rw c.edit.ensures.items (all-edited_all key_of_room room_in_word (λ x. x.amount < 2 ^ 64) r.room (y ∷ []) room_stays_in_word c.edit.ensures.order room_word_small c.self.invariant.bounded.room); spare = c.self.invariant.bounded.spare };
      fits = record { cells = c.self.invariant.fits.cells; crowns = c.self.invariant.fits.crowns; room = rw items (omega (arith, gained, room)); spare = c.self.invariant.fits.spare };
      cells = c.self.invariant.cells;
      crowns = c.self.invariant.crowns;
      room = omega (arith, c.self.invariant.room, c.edit.ensures.capacity);
      spare = c.self.invariant.spare;
    }

pub returns-clause-rights : goal.returns-clause-rights
returns-clause-rights c =
    let r = lists_of c.self.inside in
    let y = c.args.room in
    let items = c.edit.ensures.items ∙ rooms_in_word r (y ∷ []) c.edit.ensures.order (rw (← c.self.view_is) at c.requires.fits, tt) in
    rw (← c.self.view_is, items) (rooms_put_in r (y ∷ []) c.edit.ensures.order)

pub returns-clause-len : goal.returns-clause-len
returns-clause-len c =
    let r = lists_of c.self.inside in
    let y = c.args.room in
    let items = c.edit.ensures.items ∙ rooms_in_word r (y ∷ []) c.edit.ensures.order (rw (← c.self.view_is) at c.requires.fits, tt) in
    let gained = rooms_gained r (y ∷ []) c.edit.ensures.order c.self.invariant.positive.room in
    rw (← c.self.view_is, items) (omega (arith, gained))
