-- The number of keys in the lists of a hold, from the hold itself: whatever lists in order say that hold have as many.
use Rattle.std.proofs.Common.{◌≡◌, ℕ, ◌+◌, ◌≤◌, None, max, length, sym, ◌∙◌, ap, subst, arith}
use Rattle.sm_reservation.specs.Rights.{Rights}
use Rattle.sm_reservation.specs.Key.{key_of_cell, key_of_crown, key_of_room, key_of_spare, IsOrdered, IsPositive}
use Rattle.sm_reservation.specs.Hold.{Hold, minus, plus, minus_crowns, minus_room, minus_spare, plus_crowns, plus_room, plus_spare}
use Rattle.sm_reservation.specs.HoldOf.{hold_of}
use Rattle.sm_reservation.specs.Steps.{count_steps, AllSteps}
use Rattle.sm_reservation.specs.Turns.{out_cell, out_crown, out_room, out_spare, in_cell, in_crown, in_room, in_spare, lacks_cell, lacks_crown, lacks_room, lacks_spare, loses_cell, loses_crown, loses_room, loses_spare, HasRoom, HasSpare}
use Rattle.sm_reservation.specs.Short.{first_short}
use Rattle.sm_reservation.specs.Capacity.{HoldModel, key_counts, most_keys, add_counts, new_keys, lost_keys, HasCapacity, HasCapacityAfter}
use Rattle.sm_reservation.specs.Edits.{edited_all, row_out, row_in, room_row_out, room_row_in, spare_row_out, spare_row_in}
use Rattle.sm_reservation.proofs.EditLemmas.{Rises-edited_all, positive-edited_all}
use Rattle.sm_reservation.proofs.EditedHolds.{stays_out, stays_in, room_stays_out, room_stays_in, spare_stays_out, spare_stays_in, room_some_out, room_some_in, spare_some_out, spare_some_in, cells_taken, crowns_taken, rooms_taken, spares_taken, cells_put_in, crowns_put_in, rooms_put_in, spares_put_in, cells_lost, crowns_lost, rooms_lost, spares_lost, cells_gained, crowns_gained, rooms_gained, spares_gained}
use Rattle.sm_reservation.proofs.ShortLemmas.{has_all}
use Rattle.sm_reservation.proofs.ParcelMoves.{same_sizes, take-1, take-2, take-3, put-1, put-2, put-3, take_counts, put_counts, take_rooms, take_spares}
use Rattle.sm_reservation.proofs.InOrder.{rights_by_hold}

-- ---- the lists once a parcel is taken out

abbrev taken-1 : Rights → Rights → Rights
taken-1 r p = record r { cells = edited_all key_of_cell row_out r.cells p.cells }

abbrev taken-2 : Rights → Rights → Rights
taken-2 r p = record (taken-1 r p) { crowns = edited_all key_of_crown row_out r.crowns p.crowns }

abbrev taken-3 : Rights → Rights → Rights
taken-3 r p = record (taken-2 r p) { room = edited_all key_of_room room_row_out r.room p.room }

-- all four lists, with those of the parcel taken out of them
abbrev pub taken : Rights → Rights → Rights
taken r p = record (taken-3 r p) { spare = edited_all key_of_spare spare_row_out r.spare p.spare }

hold-1 : (r p : Rights) → IsOrdered r → hold_of (taken-1 r p) ≡ take-1 (hold_of r) p
hold-1 r p o = cells_taken r p.cells o.cells

hold-2 : (r p : Rights) → IsOrdered r → hold_of (taken-2 r p) ≡ take-2 (hold_of r) p
hold-2 r p o = crowns_taken (taken-1 r p) p.crowns o.crowns ∙ ap (λ (h : Hold). minus_crowns h p.crowns) (hold-1 r p o)

hold-3 : (r p : Rights) → IsOrdered r → hold_of (taken-3 r p) ≡ take-3 (hold_of r) p
hold-3 r p o = rooms_taken (taken-2 r p) p.room o.room ∙ ap (λ (h : Hold). minus_room h p.room) (hold-2 r p o)

-- they are the hold without the parcel
pub hold-taken : (r p : Rights) → IsOrdered r → hold_of (taken r p) ≡ minus (hold_of r) p
hold-taken r p o = spares_taken (taken-3 r p) p.spare o.spare ∙ ap (λ (h : Hold). minus_spare h p.spare) (hold-3 r p o)

pub ordered-taken : (r p : Rights) → IsOrdered r → IsOrdered (taken r p)
ordered-taken r p o = record {
  cells = Rises-edited_all key_of_cell row_out r.cells p.cells (stays_out key_of_cell) o.cells;
  crowns = Rises-edited_all key_of_crown row_out r.crowns p.crowns (stays_out key_of_crown) o.crowns;
  room = Rises-edited_all key_of_room room_row_out r.room p.room room_stays_out o.room;
  spare = Rises-edited_all key_of_spare spare_row_out r.spare p.spare spare_stays_out o.spare;
}

-- no amount of them is 0, if none was
pub positive-taken : (r p : Rights) → IsPositive r → IsPositive (taken r p)
positive-taken r p s = record {
  room = positive-edited_all key_of_room room_row_out (λ x. x.amount) r.room p.room room_some_out s.room;
  spare = positive-edited_all key_of_spare spare_row_out (λ x. x.amount) r.spare p.spare spare_some_out s.spare;
}

-- they have as many keys fewer as the hold loses
pub sizes-taken : (r p : Rights) → IsOrdered r → IsPositive r → IsOrdered p → first_short (hold_of r) p ≡ None → add_counts (key_counts (taken r p)) (lost_keys (hold_of r) p) ≡ key_counts r
sizes-taken r p o s q none =
    let h = hold_of r in
    let n = take_counts h p q in
    let all = has_all h p none in
    let cells : length (edited_all key_of_cell row_out r.cells p.cells) + count_steps out_cell loses_cell h p.cells ≡ length r.cells = cells_lost r p.cells o.cells in
    let crowns : length (edited_all key_of_crown row_out r.crowns p.crowns) + count_steps out_crown loses_crown (take-1 h p) p.crowns ≡ length r.crowns = subst (λ (k : Hold). length (edited_all key_of_crown row_out r.crowns p.crowns) + count_steps out_crown loses_crown k p.crowns ≡ length r.crowns) (hold-1 r p o) (crowns_lost (taken-1 r p) p.crowns o.crowns) in
    let room : length (edited_all key_of_room room_row_out r.room p.room) + count_steps out_room loses_room (take-2 h p) p.room ≡ length r.room =
    subst (λ (k : Hold). AllSteps out_room HasRoom k p.room → length (edited_all key_of_room room_row_out r.room p.room) + count_steps out_room loses_room k p.room ≡ length r.room) (hold-2 r p o) (λ has. rooms_lost (taken-2 r p) p.room o.room s.room has) (take_rooms h p q all) in
    let spare : length (edited_all key_of_spare spare_row_out r.spare p.spare) + count_steps out_spare loses_spare (take-3 h p) p.spare ≡ length r.spare =
    subst (λ (k : Hold). AllSteps out_spare HasSpare k p.spare → length (edited_all key_of_spare spare_row_out r.spare p.spare) + count_steps out_spare loses_spare k p.spare ≡ length r.spare) (hold-3 r p o) (λ has. spares_lost (taken-3 r p) p.spare o.spare s.spare has) (take_spares h p q all) in
    same_sizes (omega (arith, n.cells)) (omega (arith, n.crowns)) (omega (arith, n.room)) (omega (arith, n.spare))

-- ---- the lists once a parcel is put in

abbrev given-1 : Rights → Rights → Rights
given-1 r p = record r { cells = edited_all key_of_cell row_in r.cells p.cells }

abbrev given-2 : Rights → Rights → Rights
given-2 r p = record (given-1 r p) { crowns = edited_all key_of_crown row_in r.crowns p.crowns }

abbrev given-3 : Rights → Rights → Rights
given-3 r p = record (given-2 r p) { room = edited_all key_of_room room_row_in r.room p.room }

-- all four lists, with those of the parcel put into them
abbrev pub given : Rights → Rights → Rights
given r p = record (given-3 r p) { spare = edited_all key_of_spare spare_row_in r.spare p.spare }

more-1 : (r p : Rights) → IsOrdered r → hold_of (given-1 r p) ≡ put-1 (hold_of r) p
more-1 r p o = cells_put_in r p.cells o.cells

more-2 : (r p : Rights) → IsOrdered r → hold_of (given-2 r p) ≡ put-2 (hold_of r) p
more-2 r p o = crowns_put_in (given-1 r p) p.crowns o.crowns ∙ ap (λ (h : Hold). plus_crowns h p.crowns) (more-1 r p o)

more-3 : (r p : Rights) → IsOrdered r → hold_of (given-3 r p) ≡ put-3 (hold_of r) p
more-3 r p o = rooms_put_in (given-2 r p) p.room o.room ∙ ap (λ (h : Hold). plus_room h p.room) (more-2 r p o)

-- they are the hold with the parcel
pub hold-given : (r p : Rights) → IsOrdered r → hold_of (given r p) ≡ plus (hold_of r) p
hold-given r p o = spares_put_in (given-3 r p) p.spare o.spare ∙ ap (λ (h : Hold). plus_spare h p.spare) (more-3 r p o)

pub ordered-given : (r p : Rights) → IsOrdered r → IsOrdered (given r p)
ordered-given r p o = record {
  cells = Rises-edited_all key_of_cell row_in r.cells p.cells (stays_in key_of_cell) o.cells;
  crowns = Rises-edited_all key_of_crown row_in r.crowns p.crowns (stays_in key_of_crown) o.crowns;
  room = Rises-edited_all key_of_room room_row_in r.room p.room room_stays_in o.room;
  spare = Rises-edited_all key_of_spare spare_row_in r.spare p.spare spare_stays_in o.spare;
}

-- no amount of them is 0, if none was
pub positive-given : (r p : Rights) → IsPositive r → IsPositive (given r p)
positive-given r p s = record {
  room = positive-edited_all key_of_room room_row_in (λ x. x.amount) r.room p.room room_some_in s.room;
  spare = positive-edited_all key_of_spare spare_row_in (λ x. x.amount) r.spare p.spare spare_some_in s.spare;
}

-- they have as many keys more as are new to the hold
pub sizes-given : (r p : Rights) → IsOrdered r → IsPositive r → IsOrdered p → key_counts (given r p) ≡ add_counts (key_counts r) (new_keys (hold_of r) p)
sizes-given r p o s q =
    let h = hold_of r in
    let n = put_counts h p q in
    let cells : length (edited_all key_of_cell row_in r.cells p.cells) ≡ length r.cells + count_steps in_cell lacks_cell h p.cells = cells_gained r p.cells o.cells in
    let crowns : length (edited_all key_of_crown row_in r.crowns p.crowns) ≡ length r.crowns + count_steps in_crown lacks_crown (put-1 h p) p.crowns = subst (λ (k : Hold). length (edited_all key_of_crown row_in r.crowns p.crowns) ≡ length r.crowns + count_steps in_crown lacks_crown k p.crowns) (more-1 r p o) (crowns_gained (given-1 r p) p.crowns o.crowns) in
    let room : length (edited_all key_of_room room_row_in r.room p.room) ≡ length r.room + count_steps in_room lacks_room (put-2 h p) p.room = subst (λ (k : Hold). length (edited_all key_of_room room_row_in r.room p.room) ≡ length r.room + count_steps in_room lacks_room k p.room) (more-2 r p o) (rooms_gained (given-2 r p) p.room o.room s.room) in
    let spare : length (edited_all key_of_spare spare_row_in r.spare p.spare) ≡ length r.spare + count_steps in_spare lacks_spare (put-3 h p) p.spare = subst (λ (k : Hold). length (edited_all key_of_spare spare_row_in r.spare p.spare) ≡ length r.spare + count_steps in_spare lacks_spare k p.spare) (more-3 r p o) (spares_gained (given-3 r p) p.spare o.spare s.spare) in
    same_sizes (omega (arith, n.cells)) (omega (arith, n.crowns)) (omega (arith, n.room)) (omega (arith, n.spare))

-- ---- whatever lists say the hold that is left, or that there is then

-- lists in order of what is left have as many keys as were not lost
pub sizes_of_minus : (r p q : Rights) → IsOrdered r → IsPositive r → IsOrdered p → first_short (hold_of r) p ≡ None → IsOrdered q → IsPositive q → hold_of q ≡ minus (hold_of r) p → add_counts (key_counts q) (lost_keys (hold_of r) p) ≡ key_counts r
sizes_of_minus r p q o s op none oq sq is =
    let e : q ≡ taken r p = rights_by_hold q (taken r p) oq sq (ordered-taken r p o) (positive-taken r p s) (is ∙ sym (hold-taken r p o)) in
    rw e (sizes-taken r p o s op none)

-- lists in order of what there is then have as many keys as there were, and those that are new
pub sizes_of_plus : (r p q : Rights) → IsOrdered r → IsPositive r → IsOrdered p → IsOrdered q → IsPositive q → hold_of q ≡ plus (hold_of r) p → key_counts q ≡ add_counts (key_counts r) (new_keys (hold_of r) p)
sizes_of_plus r p q o s op oq sq is =
    let e : q ≡ given r p = rights_by_hold q (given r p) oq sq (ordered-given r p o) (positive-given r p s) (is ∙ sym (hold-given r p o)) in
    rw e (sizes-given r p o s op)

longest : (a b c d n : ℕ) → max (max (max a b) c) d ≤ n → (a ≤ n) × (b ≤ n) × (c ≤ n) × (d ≤ n)
longest a b c d n l = (omega arith, omega arith, omega arith, omega arith)

-- where lists of what there is then are within the capacity, there is capacity to put the parcel in
pub capacity_to_put : (k : HoldModel) (p q : Rights) → IsOrdered k.rights → IsPositive k.rights → IsOrdered p → IsOrdered q → IsPositive q → hold_of q ≡ plus (hold_of k.rights) p → most_keys q ≤ k.capacity → HasCapacity k p
capacity_to_put k p q o s op oq sq is within =
    let e = sizes_of_plus k.rights p q o s op oq sq is in
    let l = longest (length q.cells) (length q.crowns) (length q.room) (length q.spare) k.capacity within in
    record {
      cells = omega (arith, ap (λ z. z.cells) e, l.0);
      crowns = omega (arith, ap (λ z. z.crowns) e, l.1);
      room = omega (arith, ap (λ z. z.room) e, l.2);
      spare = omega (arith, ap (λ z. z.spare) e, l.3);
    }

-- where lists of what there is after a trade are within the capacity, there is capacity for the trade
pub capacity_to_trade : (k : HoldModel) (out got q : Rights) → IsOrdered k.rights → IsPositive k.rights → IsOrdered out → IsOrdered got → first_short (hold_of k.rights) out ≡ None → IsOrdered q → IsPositive q → hold_of q ≡ plus (minus (hold_of k.rights) out) got → most_keys q ≤ k.capacity → HasCapacityAfter k out got
capacity_to_trade k out got q o s oo og none oq sq is within =
    let m = taken k.rights out in
    let hm : hold_of m ≡ minus (hold_of k.rights) out = hold-taken k.rights out o in
    let lost = sizes-taken k.rights out o s oo none in
    let gained = rw hm at (sizes_of_plus m got q (ordered-taken k.rights out o) (positive-taken k.rights out s) og oq sq (is ∙ ap (λ (h : Hold). plus h got) (sym hm))) in
    let l = longest (length q.cells) (length q.crowns) (length q.room) (length q.spare) k.capacity within in
    record {
      cells = omega (arith, ap (λ z. z.cells) lost, ap (λ z. z.cells) gained, l.0);
      crowns = omega (arith, ap (λ z. z.crowns) lost, ap (λ z. z.crowns) gained, l.1);
      room = omega (arith, ap (λ z. z.room) lost, ap (λ z. z.room) gained, l.2);
      spare = omega (arith, ap (λ z. z.spare) lost, ap (λ z. z.spare) gained, l.3);
    }
