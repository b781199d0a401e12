-- The handover numbers in cells are far below what a word has room for.
use Rattle.std.proofs.Common.{◌≡◌, ◌∙◌, ◌≤◌, ℕ, sym, ap, subst, arith, inl, inr}
use Rattle.std.proofs.lemmas.Bool.{cases_eq}
use Rattle.sm_server.specs.declared.call.Cell.{Cell}
use Rattle.sm_server.specs.declared.call.Cell.TheVariants as cell
use Rattle.sm_placement.specs.Setup.{Setup}
use Rattle.sm_placement.specs.Lead.{Describes, IsPlain}
use Rattle.sm_placement.specs.declared.lead.Lead.{Lead}
use Rattle.sm_placement.specs.declared.lead.Lead.TheVariants.{Gone, At, Ready, Handing, Handed}
use Rattle.sm_protocol.specs.State.{State, numbers_end}
use Rattle.sm_protocol.specs.Laws.{IsReached}
use Rattle.sm_protocol.proofs.Invariant.{IsKept}
use Rattle.sm_protocol.proofs.SmallNumbers.{numbers_stay_small}
use Rattle.sm_protocol.proofs.Whole.{reached_keeps}
use Rattle.sm_driver.specs.Restores.{handover_in_cell}

plain_is_small : (c : Cell) → IsPlain c → handover_in_cell c ≤ numbers_end
plain_is_small cell.Absent h = omega arith
plain_is_small cell.Secondary h = omega arith
plain_is_small cell.Primary h = absurd h
plain_is_small (cell.Prepared u n) h = absurd h
plain_is_small (cell.Forwarding u n) h = absurd h

-- a cell that is recorded has a small handover number
pub cell_is_small : (setup : Setup) (w : State) → IsReached setup w → (s v : ℕ) → handover_in_cell (w.place.cells s v) ≤ numbers_end
cell_is_small setup w reached s v = go (keeps.leads s) (keeps.stage.described s)
  where
    keeps : IsKept w
    keeps = (reached_keeps setup w reached).0

    is : (u : ℕ) (c : Cell) → v ≡ u → w.place.cells s u ≡ c → handover_in_cell c ≤ numbers_end → handover_in_cell (w.place.cells s v) ≤ numbers_end
    is u c same e l = subst (λ d. handover_in_cell d ≤ numbers_end) (sym (ap (w.place.cells s) same ∙ e)) l

    small : w.numbers s ≤ numbers_end
    small = let l = (numbers_stay_small setup w reached).numbers s in omega arith

    none : 0 ≤ numbers_end
    none = omega arith

    go : (lead : Lead) → Describes lead (w.numbers s) (w.place.cells s) → handover_in_cell (w.place.cells s v) ≤ numbers_end
    go Gone d = plain_is_small (w.place.cells s v) (d v)
    go (At u) d = elim (cases_eq v u) [
      | inl e ↦ is u cell.Primary e d.0 none
      | inr e ↦ plain_is_small (w.place.cells s v) (d.1 v e)
    ]
    go (Ready u x) d = elim (cases_eq v u) [
      | inl e ↦ is u cell.Primary e d.1 none
      | inr e ↦ elim (cases_eq v x) [
        | inl f ↦ is x (cell.Prepared u (w.numbers s)) f d.2 small
        | inr f ↦ plain_is_small (w.place.cells s v) (d.3 v e f)
      ]
    ]
    go (Handing u x) d = elim (cases_eq v u) [
      | inl e ↦ is u (cell.Forwarding x (w.numbers s)) e d.1 small
      | inr e ↦ elim (cases_eq v x) [
        | inl f ↦ is x (cell.Prepared u (w.numbers s)) f d.2 small
        | inr f ↦ plain_is_small (w.place.cells s v) (d.3 v e f)
      ]
    ]
    go (Handed u x) d = elim (cases_eq v u) [
      | inl e ↦ is u (cell.Forwarding x (w.numbers s)) e d.1 small
      | inr e ↦ elim (cases_eq v x) [
        | inl f ↦ is x cell.Primary f d.2 none
        | inr f ↦ plain_is_small (w.place.cells s v) (d.3 v e f)
      ]
    ]
