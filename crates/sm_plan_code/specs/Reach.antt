-- The cells that a hold reaches: those that its holder may change.
use Rattle.std.specs.Prelude.{◌≡◌, ◌≤◌, ◌⊎◌, ℕ, ◌+◌, Option, Some}
use Rattle.sm_placement.specs.declared.lead.Lead.{Lead}
use Rattle.sm_placement.specs.declared.lead.Lead.TheVariants.{Gone, At, Ready, Handing, Handed}
use Rattle.sm_placement.specs.Setup.{Sizes}
use Rattle.sm_placement.specs.Place.{Place}
use Rattle.sm_placement.specs.Lead.{Describes}
use Rattle.sm_reservation.specs.declared.right.PlainCell.{PlainCell}
use Rattle.sm_reservation.specs.Hold.{Hold}
use Rattle.sm_reservation.specs.Amounts.{Right, count, stock, bound}

-- the lead names the server
abbrev pub LeadNames : Lead → ℕ → Type 0
LeadNames Gone v = ⊥
LeadNames (At u) v = v ≡ u
LeadNames (Ready u w) v = (v ≡ u) ⊎ (v ≡ w)
LeadNames (Handing u w) v = (v ≡ u) ⊎ (v ≡ w)
LeadNames (Handed u w) v = (v ≡ u) ⊎ (v ≡ w)

-- there is the right to the cell of s at v
abbrev pub HoldsCell : Hold → ℕ → ℕ → Type 0
HoldsCell h s v = (state : PlainCell) × (h.cells s v ≡ Some state)

-- there is the crown of s, under a lead that names v
abbrev pub HoldsLead : Hold → ℕ → ℕ → Type 0
HoldsLead h s v = (lead : Lead) × (listed : Option ℕ) × (h.crowns s ≡ Some (lead, listed)) × LeadNames lead v

-- the cell of s at v is within reach: there is the right to it, or the crown that it stands under
abbrev pub IsWithinReach : Hold → ℕ → ℕ → Type 0
IsWithinReach h s v = HoldsCell h s v ⊎ HoldsLead h s v

-- Two holds that can both be true of a placement, each beside the other, reach no cell together.
abbrev pub ReachIsExclusive : Type 0
ReachIsExclusive = (c : Sizes) (p : Place) (leads : ℕ → Lead) (numbers : ℕ → ℕ) (h k : Hold)
    → ((s : ℕ) → Describes (leads s) (numbers s) (p.cells s)) →
    ((r : Right) → count h r + count k r + bound c p r ≤ stock c p leads r) → (s v : ℕ) → IsWithinReach h s v
    → IsWithinReach k s v → ⊥
