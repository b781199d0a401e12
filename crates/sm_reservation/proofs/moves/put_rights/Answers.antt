-- The lists as the edits leave them: those of the hold with the parcel's rows put in.
use Rattle.std.proofs.Common.{◌∙◌, ap, arith}
use Rattle.sm_reservation.specs.Key.{lists, IsOrdered}
use Rattle.sm_reservation.specs.HoldOf.{hold_of}
use Rattle.sm_reservation.specs.HoldView.{lists_of}
use Rattle.sm_reservation.proofs.TurnLemmas.{lacks-cells, lacks-crowns, lacks-room, lacks-spare}
use Rattle.sm_reservation.proofs.HoldEdits.{cells_come, crowns_come, rooms_come, spares_come}
use Rattle.sm_reservation.proofs.HoldSizes.{hold-given, positive-given, sizes-given}
use Rattle.sm_reservation.proofs.WorkedIn.{room_given, spare_given, bounded-given}
use Rattle.sm_reservation.proofs.moves.put_rights.Goals as goal

pub edit_all-requires-clause-capacity : goal.edit_all-requires-clause-capacity
edit_all-requires-clause-capacity c =
    let r = lists_of c.hold.inside in
    let few = cells_come r c.args.cells.now c.requires.order.cells in
    let count = lacks-cells (hold_of r) c.args.cells.now c.requires.order.cells in
    let room = rw (← c.hold.view_is) at c.requires.capacity.cells in
    omega (arith, few, count, room, c.hold.invariant.cells)

pub edit_all-requires-2-clause-capacity : goal.edit_all-requires-2-clause-capacity
edit_all-requires-2-clause-capacity c =
    let r = lists_of c.hold.inside in
    let few = crowns_come r c.args.crowns.now c.requires.order.crowns in
    let count = lacks-crowns (hold_of r) c.args.crowns.now c.requires.order.crowns in
    let room = rw (← c.hold.view_is) at c.requires.capacity.crowns in
    omega (arith, few, count, room, c.hold.invariant.crowns)

pub edit_all-requires-3-clause-capacity : goal.edit_all-requires-3-clause-capacity
edit_all-requires-3-clause-capacity c =
    let r = lists_of c.hold.inside in
    let few = rooms_come r c.args.rooms.now c.requires.order.room in
    let count = lacks-room (hold_of r) c.args.rooms.now c.requires.order.room in
    let room = rw (← c.hold.view_is) at c.requires.capacity.room in
    omega (arith, few, count, room, c.hold.invariant.room)

pub edit_all-requires-4-clause-capacity : goal.edit_all-requires-4-clause-capacity
edit_all-requires-4-clause-capacity c =
    let r = lists_of c.hold.inside in
    let few = spares_come r c.args.spares.now c.requires.order.spare in
    let count = lacks-spare (hold_of r) c.args.spares.now c.requires.order.spare in
    let room = rw (← c.hold.view_is) at c.requires.capacity.spare in
    omega (arith, few, count, room, c.hold.invariant.spare)

pub invariant_of-hold : goal.invariant_of-hold
invariant_of-hold c =
    let r = lists_of c.hold.inside in
    let p = lists c.args.cells.now c.args.crowns.now c.args.rooms.now c.args.spares.now in
    let o : IsOrdered r = record { cells = c.edit_all.ensures.order; crowns = c.edit_all-2.ensures.order; room = c.edit_all-3.ensures.order; spare = c.edit_all-4.ensures.order } in
    let room_is = c.edit_all-3.ensures.items ∙ room_given r p o c.requires.order (rw (← c.hold.view_is) at c.requires.sums) in
    let spare_is = c.edit_all-4.ensures.items ∙ spare_given r p o c.requires.order (rw (← c.hold.view_is) at c.requires.sums) in
    let sizes = sizes-given r p o c.hold.invariant.positive c.requires.order in
    let room = rw (← c.hold.view_is) at c.requires.capacity in
    let positive = positive-given r p c.hold.invariant.positive in
    let bounded = bounded-given r p o c.requires.order (rw (← c.hold.view_is) at c.requires.sums) c.hold.invariant.bounded in
    record {
      positive = record { room = rw room_is positive.room; spare = rw spare_is positive.spare };
      bounded = record { room = rw room_is bounded.room; spare = rw spare_is bounded.spare };
      fits = record {
        cells = rw c.edit_all.ensures.items (omega (arith, ap (λ z. z.cells) sizes, room.cells));
        crowns = rw c.edit_all-2.ensures.items (omega (arith, ap (λ z. z.crowns) sizes, room.crowns));
        room = rw room_is (omega (arith, ap (λ z. z.room) sizes, room.room));
        spare = rw spare_is (omega (arith, ap (λ z. z.spare) sizes, room.spare));
      };
      cells = omega (arith, c.hold.invariant.cells, c.edit_all.ensures.capacity);
      crowns = omega (arith, c.hold.invariant.crowns, c.edit_all-2.ensures.capacity);
      room = omega (arith, c.hold.invariant.room, c.edit_all-3.ensures.capacity);
      spare = omega (arith, c.hold.invariant.spare, c.edit_all-4.ensures.capacity);
    }

pub returns-clause-rights : goal.returns-clause-rights
returns-clause-rights c =
    let r = lists_of c.hold.inside in
    let p = lists c.args.cells.now c.args.crowns.now c.args.rooms.now c.args.spares.now in
    let o : IsOrdered r = record { cells = c.edit_all.ensures.order; crowns = c.edit_all-2.ensures.order; room = c.edit_all-3.ensures.order; spare = c.edit_all-4.ensures.order } in
    let room_is = c.edit_all-3.ensures.items ∙ room_given r p o c.requires.order (rw (← c.hold.view_is) at c.requires.sums) in
    let spare_is = c.edit_all-4.ensures.items ∙ spare_given r p o c.requires.order (rw (← c.hold.view_is) at c.requires.sums) in
    rw (← c.hold.view_is, c.edit_all.ensures.items, c.edit_all-2.ensures.items, room_is, spare_is) (hold-given r p o)

pub returns-clause-more : goal.returns-clause-more
returns-clause-more c =
    let r = lists_of c.hold.inside in
    let p = lists c.args.cells.now c.args.crowns.now c.args.rooms.now c.args.spares.now in
    let o : IsOrdered r = record { cells = c.edit_all.ensures.order; crowns = c.edit_all-2.ensures.order; room = c.edit_all-3.ensures.order; spare = c.edit_all-4.ensures.order } in
    let room_is = c.edit_all-3.ensures.items ∙ room_given r p o c.requires.order (rw (← c.hold.view_is) at c.requires.sums) in
    let spare_is = c.edit_all-4.ensures.items ∙ spare_given r p o c.requires.order (rw (← c.hold.view_is) at c.requires.sums) in
    let sizes = sizes-given r p o c.hold.invariant.positive c.requires.order in
    record { sizes = rw (← c.hold.view_is, c.edit_all.ensures.items, c.edit_all-2.ensures.items, room_is, spare_is) sizes; capacity = ap (λ k. k.capacity) c.hold.view_is }
