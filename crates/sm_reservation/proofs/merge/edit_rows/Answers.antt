use Rattle.std.proofs.Common.{◌≡◌, ◌++◌, take, drop, length, sym, ◌∙◌, ap, arith}
use Rattle.std.proofs.Math.Seq.{drop-append_seam}
use Rattle.std.proofs.lemmas.List.{length-take-le}
use Rattle.sm_reservation.proofs.MergeLemmas.{new_rows-le}
use Rattle.sm_reservation.proofs.EditLemmas.{Rises-edited_all}
use Rattle.sm_reservation.proofs.merge.edit_rows.Goals as goal

pub merge-requires-clause-capacity : goal.merge-requires-clause-capacity
merge-requires-clause-capacity g c =
    let gap = c.min-gap.result in
    let front = take gap c.args.list.now in
    let is : length front ≡ gap = length-take-le gap c.args.list.now (omega arith) in
    let e : drop gap (front ++ c.args.rows.now.items) ≡ c.args.rows.now.items = ap (λ k. drop k (front ++ c.args.rows.now.items)) (sym is) ∙ drop-append_seam front c.args.rows.now.items in
    let less = new_rows-le g.T.Row.key g.E.Edit.edit c.args.rows.now.items c.args.list.now in
    rw (c.open_gap.ensures.items, e) (omega (arith, less, c.requires.capacity))

pub returns-clause-order : goal.returns-clause-order
returns-clause-order g c =
    let gap = c.min-gap.result in
    let front = take gap c.args.list.now in
    let is : length front ≡ gap = length-take-le gap c.args.list.now (omega arith) in
    let e : drop gap (front ++ c.args.rows.now.items) ≡ c.args.rows.now.items = ap (λ k. drop k (front ++ c.args.rows.now.items)) (sym is) ∙ drop-append_seam front c.args.rows.now.items in
    rw (c.merge.ensures.items, c.open_gap.ensures.items, e) (Rises-edited_all g.T.Row.key g.E.Edit.edit c.args.rows.now.items c.args.list.now c.requires.stays c.requires.order)
