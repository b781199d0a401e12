use Rattle.std.proofs.Common.{sym, ◌∙◌}
use Rattle.sm_reservation.specs.Hold.{Hold}
use Rattle.sm_reservation.specs.Pool.{pool_hold}
use Rattle.sm_verifier.specs.Finding.{is_free_cell, is_free_crown, IsFree}
use Rattle.sm_verifier.proofs.FirstRows.{cell_lowest, crowns_lowest, crowns_none}
use Rattle.sm_verifier.proofs.Judging.{judges_free}
use Rattle.sm_verifier.proofs.free.taken_key.Goals as goal

pub returns-in-Some-clause-lowest : goal.returns-in-Some-clause-lowest
returns-in-Some-clause-lowest c =
    let r = c.args.parcel.now in
    let h : Hold = pool_hold c.args.pool.now in
    let xs = c.args.earlier.now in
    cell_lowest r (is_free_cell h xs) (is_free_crown h xs) (IsFree h xs r) (judges_free r h xs) (rw c.cells.ensures.value at c.cells.ensures.order) c.in-Some.key (sym (rw c.cells.ensures.value at c.taken_cell.ensures) ∙ c.in-Some.is)

pub returns-clause-lowest : goal.returns-clause-lowest
returns-clause-lowest c =
    let r = c.args.parcel.now in
    let h : Hold = pool_hold c.args.pool.now in
    let xs = c.args.earlier.now in
    crowns_lowest r (is_free_cell h xs) (is_free_crown h xs) (IsFree h xs r) (judges_free r h xs) (rw c.crowns.ensures.value at c.crowns.ensures.order) (sym (rw c.cells.ensures.value at c.taken_cell.ensures) ∙ c.in_default.is) c.taken_crown.result (rw c.crowns.ensures.value at c.taken_crown.ensures)

pub returns-clause-none : goal.returns-clause-none
returns-clause-none c =
    let r = c.args.parcel.now in
    let h : Hold = pool_hold c.args.pool.now in
    let xs = c.args.earlier.now in
    crowns_none r (is_free_cell h xs) (is_free_crown h xs) (IsFree h xs r) (judges_free r h xs) (sym (rw c.cells.ensures.value at c.taken_cell.ensures) ∙ c.in_default.is) c.taken_crown.result (rw c.crowns.ensures.value at c.taken_crown.ensures)
