-- The lists as the edits leave them: those of the hold with the parcel's rows taken out.
use Rattle.std.proofs.Common.{refl, ap, arith}
use Rattle.sm_reservation.specs.Key.{key_of_cell, key_of_crown, key_of_room, key_of_spare, lists, IsOrdered}
use Rattle.sm_reservation.specs.HoldOf.{hold_of}
use Rattle.sm_reservation.specs.HoldView.{lists_of}
use Rattle.sm_reservation.specs.Edits.{row_out, room_row_out, spare_row_out}
use Rattle.sm_reservation.proofs.ParcelSums.{minus_count}
use Rattle.sm_reservation.proofs.HoldEdits.{none_come, room_never, spare_never}
use Rattle.sm_reservation.proofs.HoldSizes.{hold-taken, positive-taken, sizes-taken}
use Rattle.sm_reservation.proofs.WorkedIn.{bounded-taken}
use Rattle.sm_reservation.proofs.moves.take_rights.Goals as goal

pub edit_all-requires-clause-capacity : goal.edit_all-requires-clause-capacity
edit_all-requires-clause-capacity c = omega (arith, none_come key_of_cell row_out c.hold.inside.cells.items c.args.cells.now (λ y. refl), c.hold.invariant.fits.cells, c.hold.invariant.cells)

pub edit_all-requires-2-clause-capacity : goal.edit_all-requires-2-clause-capacity
edit_all-requires-2-clause-capacity c = omega (arith, none_come key_of_crown row_out c.hold.inside.crowns.items c.args.crowns.now (λ y. refl), c.hold.invariant.fits.crowns, c.hold.invariant.crowns)

pub edit_all-requires-3-clause-capacity : goal.edit_all-requires-3-clause-capacity
edit_all-requires-3-clause-capacity c = omega (arith, none_come key_of_room room_row_out c.hold.inside.room.items c.args.rooms.now room_never, c.hold.invariant.fits.room, c.hold.invariant.room)

pub edit_all-requires-4-clause-capacity : goal.edit_all-requires-4-clause-capacity
edit_all-requires-4-clause-capacity c = omega (arith, none_come key_of_spare spare_row_out c.hold.inside.spare.items c.args.spares.now spare_never, c.hold.invariant.fits.spare, c.hold.invariant.spare)

pub invariant_of-hold : goal.invariant_of-hold
invariant_of-hold c =
    let r = lists_of c.hold.inside in
    let p = lists c.args.cells.now c.args.crowns.now c.args.rooms.now c.args.spares.now in
    let o : IsOrdered r = record { cells = c.edit_all.ensures.order; crowns = c.edit_all-2.ensures.order; room = c.edit_all-3.ensures.order; spare = c.edit_all-4.ensures.order } in
    let sizes = sizes-taken r p o c.hold.invariant.positive c.requires.order (rw (← c.hold.view_is) at c.requires.held) in
    let positive = positive-taken r p c.hold.invariant.positive in
    let bounded = bounded-taken r p o c.hold.invariant.bounded in
    record {
      positive = record { room = rw c.edit_all-3.ensures.items positive.room; spare = rw c.edit_all-4.ensures.items positive.spare };
      bounded = record { room = rw c.edit_all-3.ensures.items bounded.room; spare = rw c.edit_all-4.ensures.items bounded.spare };
      fits = record {
        cells = rw c.edit_all.ensures.items (omega (arith, ap (λ z. z.cells) sizes, c.hold.invariant.fits.cells));
        crowns = rw c.edit_all-2.ensures.items (omega (arith, ap (λ z. z.crowns) sizes, c.hold.invariant.fits.crowns));
        room = rw c.edit_all-3.ensures.items (omega (arith, ap (λ z. z.room) sizes, c.hold.invariant.fits.room));
        spare = rw c.edit_all-4.ensures.items (omega (arith, ap (λ z. z.spare) sizes, c.hold.invariant.fits.spare));
      };
      cells = omega (arith, c.hold.invariant.cells, c.edit_all.ensures.capacity);
      crowns = omega (arith, c.hold.invariant.crowns, c.edit_all-2.ensures.capacity);
      room = omega (arith, c.hold.invariant.room, c.edit_all-3.ensures.capacity);
      spare = omega (arith, c.hold.invariant.spare, c.edit_all-4.ensures.capacity);
    }

pub returns-clause-rights : goal.returns-clause-rights
returns-clause-rights c =
    let o : IsOrdered (lists_of c.hold.inside) = record { cells = c.edit_all.ensures.order; crowns = c.edit_all-2.ensures.order; room = c.edit_all-3.ensures.order; spare = c.edit_all-4.ensures.order } in
    rw (← c.hold.view_is, c.edit_all.ensures.items, c.edit_all-2.ensures.items, c.edit_all-3.ensures.items, c.edit_all-4.ensures.items) (hold-taken (lists_of c.hold.inside) (lists c.args.cells.now c.args.crowns.now c.args.rooms.now c.args.spares.now) o)

pub returns-clause-sums : goal.returns-clause-sums
returns-clause-sums c r = rw (returns-clause-rights c) (minus_count (hold_of c.args.hold.now.rights) (lists c.args.cells.now c.args.crowns.now c.args.rooms.now c.args.spares.now) c.requires.order c.requires.held r)

pub returns-clause-less : goal.returns-clause-less
returns-clause-less c =
    let o : IsOrdered (lists_of c.hold.inside) = record { cells = c.edit_all.ensures.order; crowns = c.edit_all-2.ensures.order; room = c.edit_all-3.ensures.order; spare = c.edit_all-4.ensures.order } in
    let sizes = sizes-taken (lists_of c.hold.inside) (lists c.args.cells.now c.args.crowns.now c.args.rooms.now c.args.spares.now) o c.hold.invariant.positive c.requires.order (rw (← c.hold.view_is) at c.requires.held) in
    record { sizes = rw (← c.hold.view_is, c.edit_all.ensures.items, c.edit_all-2.ensures.items, c.edit_all-3.ensures.items, c.edit_all-4.ensures.items) sizes; capacity = ap (λ k. k.capacity) c.hold.view_is }
