use Rattle.std.proofs.Common.{sym, ◌∙◌}
use Rattle.sm_placement.specs.Setup.{sizes_of}
use Rattle.sm_placement.specs.Layout.{place_of}
use Rattle.sm_reservation.specs.Hold.{Hold}
use Rattle.sm_reservation.specs.HoldOf.{hold_of}
use Rattle.sm_reservation.specs.Pool.{true_rights}
use Rattle.sm_verifier.specs.Finding.{holds_cell, holds_crown}
use Rattle.sm_verifier.specs.Admission.{IsIn}
use Rattle.sm_verifier.proofs.FirstRows.{cell_lowest, crowns_lowest, crowns_none}
use Rattle.sm_verifier.proofs.Judging.{judges_in}
use Rattle.sm_verifier.proofs.truth.untrue_key.Goals as goal

pub returns-in-Some-clause-lowest : goal.returns-in-Some-clause-lowest
returns-in-Some-clause-lowest c =
    let r = c.args.parcel.now in
    let t : Hold = true_rights (sizes_of c.args.placement.now.setup) (place_of c.args.placement.now) in
    cell_lowest r (holds_cell t) (holds_crown t) (IsIn (hold_of r) t) (judges_in r t) (rw c.cells.ensures.value at c.cells.ensures.order) c.in-Some.key (sym (rw c.cells.ensures.value at c.untrue_cell.ensures) ∙ c.in-Some.is)

pub returns-clause-lowest : goal.returns-clause-lowest
returns-clause-lowest c =
    let r = c.args.parcel.now in
    let t : Hold = true_rights (sizes_of c.args.placement.now.setup) (place_of c.args.placement.now) in
    crowns_lowest r (holds_cell t) (holds_crown t) (IsIn (hold_of r) t) (judges_in r t) (rw c.crowns.ensures.value at c.crowns.ensures.order) (sym (rw c.cells.ensures.value at c.untrue_cell.ensures) ∙ c.in_default.is) c.untrue_crown.result (rw c.crowns.ensures.value at c.untrue_crown.ensures)

pub returns-clause-none : goal.returns-clause-none
returns-clause-none c =
    let r = c.args.parcel.now in
    let t : Hold = true_rights (sizes_of c.args.placement.now.setup) (place_of c.args.placement.now) in
    crowns_none r (holds_cell t) (holds_crown t) (IsIn (hold_of r) t) (judges_in r t) (sym (rw c.cells.ensures.value at c.untrue_cell.ensures) ∙ c.in_default.is) c.untrue_crown.result (rw c.crowns.ensures.value at c.untrue_crown.ensures)
