-- One turn of the pass, by what its steps leave.
use Rattle.std.proofs.Common.{◌≡◌, ◌≤◌, ◌+◌, ◌∷◌, ◌++◌, IsSome, take, drop, refl, ◌∙◌, arith, [], drop-cons, add-one, length}
use Rattle.sm_reservation.specs.Rows.{Rises, count_before}
use Rattle.sm_reservation.specs.Edits.{in_front, head_at, new_rows}
use Rattle.sm_reservation.proofs.MergeLemmas.{from, behind, turn_total, turn_room, here_within, Rises-behind}
use Rattle.sm_reservation.proofs.merge.merge.Goals as goal

pub put_over-write-requires : goal.put_over-write-requires
put_over-write-requires g c =
    let key_of = g.T.Row.key in
    let y = c.row-item.result in
    let xs = drop c.loop-row.read c.loop-row.rows.items in
    let ys = drop (c.loop-row.row-index + 1) c.args.list.now in
    let list : drop c.loop-row.row-index c.args.list.now ≡ y ∷ ys = rw (add-one, drop-cons c.args.list.now c.loop-row.row-index y c.loop-row-test.true, ← c.row-item.is) refl in
    let n : c.shift_before-count.result ≡ count_before key_of (key_of y) xs = rw (← c.key-key.ensures) c.shift_before-count.ensures.count in
    let held : c.row_here-held.result ≡ head_at key_of (from key_of xs (key_of y)) (key_of y) = rw (← n, ← c.shift_before-count.ensures.rest, ← c.deref.ensures.value, ← c.key-key.ensures) c.row_here-held.ensures.value in
    let left : Rises key_of (y ∷ ys) = rw list at c.loop-row.invariant.left in
    let room : c.loop-row.write + new_rows key_of g.E.Edit.edit xs (y ∷ ys) ≤ c.loop-row.read = rw list at c.loop-row.invariant.room in
    let turn = turn_room key_of g.E.Edit.edit y ys xs c.loop-row.write c.loop-row.read c.shift_before-count.result c.row_here-held.result c.loop-row.invariant.order left held room in
    let within = here_within c.row_here-held.result (c.loop-row.read + c.shift_before-count.result) (length c.deref.result.now) (omega (arith, c.shift_before-count.ensures.within, c.deref.ensures.len)) c.row_here-held.ensures.within in
    λ s. let t : IsSome (g.E.Edit.edit c.row_here-held.result y) = rw c.edit-left.ensures at s in omega (arith, turn.0 t, within, c.deref.ensures.len)

pub loop-row-preserved : goal.loop-row-preserved
loop-row-preserved g c =
    let key_of = g.T.Row.key in
    let y = c.row-item.result in
    let xs = drop c.loop-row.read c.loop-row.rows.items in
    let ys = drop (c.loop-row.row-index + 1) c.args.list.now in
    let list : drop c.loop-row.row-index c.args.list.now ≡ y ∷ ys = rw (add-one, drop-cons c.args.list.now c.loop-row.row-index y c.loop-row-test.true, ← c.row-item.is) refl in
    let n : c.shift_before-count.result ≡ count_before key_of (key_of y) xs = rw (← c.key-key.ensures) c.shift_before-count.ensures.count in
    let held : c.row_here-held.result ≡ head_at key_of (from key_of xs (key_of y)) (key_of y) = rw (← n, ← c.shift_before-count.ensures.rest, ← c.deref.ensures.value, ← c.key-key.ensures) c.row_here-held.ensures.value in
    let left : Rises key_of (y ∷ ys) = rw list at c.loop-row.invariant.left in
    let room : c.loop-row.write + new_rows key_of g.E.Edit.edit xs (y ∷ ys) ≤ c.loop-row.read = rw list at c.loop-row.invariant.room in
    let turn = turn_room key_of g.E.Edit.edit y ys xs c.loop-row.write c.loop-row.read c.shift_before-count.result c.row_here-held.result c.loop-row.invariant.order left held room in
    let within = here_within c.row_here-held.result (c.loop-row.read + c.shift_before-count.result) (length c.deref.result.now) (omega (arith, c.shift_before-count.ensures.within, c.deref.ensures.len)) c.row_here-held.ensures.within in
    let edit = g.E.Edit.edit in
    let cur = c.loop-row.rows.items in
    let write = c.loop-row.write in
    let read = c.loop-row.read in
    let count = c.shift_before-count.result in
    let h = c.number_of.result in
    let room_left : ((write + count) + c.put_over-write.result) + new_rows key_of edit (behind key_of xs (key_of y)) ys ≤ read + (count + h) = rw (c.put_over-write.ensures.count, c.edit-left.ensures, c.number_of.ensures) turn.1 in
    let at_place : c.row_here-held.result ≡ head_at key_of (drop (read + count) c.shift_before-count.new.rows.items) (key_of y) = rw (← c.deref.ensures.value, ← c.key-key.ensures) c.row_here-held.ensures.value in
    let done : take ((write + count) + c.put_over-write.result) c.put_over-write.new.rows.items ≡ take (write + count) c.shift_before-count.new.rows.items ++ in_front (edit c.row_here-held.result y) [] = rw (← c.edit-left.ensures) c.put_over-write.ensures.done in
    let rest : drop (read + (count + h)) c.put_over-write.new.rows.items ≡ drop (read + (count + h)) c.shift_before-count.new.rows.items = c.put_over-write.ensures.rest (read + (count + h)) (omega (arith, room_left)) in
    let t = turn_total key_of edit y ys cur c.shift_before-count.new.rows.items c.put_over-write.new.rows.items write read count h c.put_over-write.result c.row_here-held.result c.requires.stays left n c.shift_before-count.ensures.rest at_place c.number_of.ensures c.shift_before-count.ensures.done done rest in
    let total = rw list at c.loop-row.invariant.total in
    record {
      total = t.1 ∙ total;
      order = rw t.0 (Rises-behind key_of xs (key_of y) c.loop-row.invariant.order);
      left = left.1;
      room = rw t.0 room_left;
      within = omega (arith, within, c.number_of.ensures, c.deref.ensures.len, c.put_over-write.ensures.len);
      len = c.put_over-write.ensures.len ∙ c.shift_before-count.ensures.len ∙ c.loop-row.invariant.len;
      capacity = c.put_over-write.ensures.capacity ∙ c.shift_before-count.ensures.capacity ∙ c.loop-row.invariant.capacity;
    }
