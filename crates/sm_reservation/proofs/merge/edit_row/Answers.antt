use Rattle.std.proofs.Common.{◌≡◌, arith}
use Rattle.sm_reservation.specs.Rows.{count_before}
use Rattle.sm_reservation.specs.Edits.{edited, head_at}
use Rattle.sm_reservation.proofs.RowLemmas.{count_before-le-length}
use Rattle.sm_reservation.proofs.EditLemmas.{Rises-edited}
use Rattle.sm_reservation.proofs.MergeLemmas.{from}
use Rattle.sm_reservation.proofs.PlacedRows.{left_is, one_comes}
use Rattle.sm_reservation.proofs.merge.edit_row.Goals as goal

pub leave-requires-clause-number : goal.leave-requires-clause-number
leave-requires-clause-number g c = omega (arith, c.count_before-number.ensures, count_before-le-length g.T.Row.key c.key-key.result c.deref.result.now, c.deref.ensures.len)

pub leave-requires-clause-capacity : goal.leave-requires-clause-capacity
leave-requires-clause-capacity g c =
    let xs = c.args.rows.now.items in
    let y = c.args.row.now in
    let at : c.count_before-number.result ≡ count_before g.T.Row.key (g.T.Row.key y) xs = cc (c.deref.ensures.value, c.key-key.ensures, c.count_before-number.ensures) in
    let held : c.row_here-held.result ≡ head_at g.T.Row.key (from g.T.Row.key xs (g.T.Row.key y)) (g.T.Row.key y) = rw (← at, ← c.deref-2.ensures.value, ← c.key-key.ensures) c.row_here-held.ensures.value in
    λ come. omega (arith, one_comes g.T.Row.key g.E.Edit.edit y xs c.row_here-held.result c.edit-left.result c.requires.order held c.edit-left.ensures come, c.requires.capacity)

is_edited : (g : _) (c : goal.After-leave g) → c.leave.new.rows.items ≡ edited g.T.Row.key g.E.Edit.edit c.args.rows.now.items c.args.row.now
is_edited g c =
    let xs = c.args.rows.now.items in
    let y = c.args.row.now in
    let at : c.count_before-number.result ≡ count_before g.T.Row.key (g.T.Row.key y) xs = cc (c.deref.ensures.value, c.key-key.ensures, c.count_before-number.ensures) in
    let held : c.row_here-held.result ≡ head_at g.T.Row.key (from g.T.Row.key xs (g.T.Row.key y)) (g.T.Row.key y) = rw (← at, ← c.deref-2.ensures.value, ← c.key-key.ensures) c.row_here-held.ensures.value in
    rw c.leave.ensures.items (left_is g.T.Row.key g.E.Edit.edit y xs c.row_here-held.result c.edit-left.result c.count_before-number.result at held c.edit-left.ensures)

pub returns-clause-items : goal.returns-clause-items
returns-clause-items g c = is_edited g c

pub returns-clause-order : goal.returns-clause-order
returns-clause-order g c = rw (is_edited g c) (Rises-edited g.T.Row.key g.E.Edit.edit c.args.row.now c.args.rows.now.items c.requires.stays c.requires.order)
