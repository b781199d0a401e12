-- When a hold has all that another has.
use Rattle.std.specs.Prelude.{◌≡◌, ◌≤◌, ℕ, Option, Some}
use Rattle.sm_placement.specs.declared.lead.Lead.{Lead}
use Rattle.sm_reservation.specs.declared.right.PlainCell.{PlainCell}
use Rattle.sm_reservation.specs.Hold.{Hold}

-- h has each cell right and each crown of k, and as much of each amount
pub record Covers (h k : Hold) : Type 0 where
  pub cells : (s v : ℕ) (state : PlainCell) → k.cells s v ≡ Some state → h.cells s v ≡ Some state
  pub crowns : (s : ℕ) (crown : Lead × Option ℕ) → k.crowns s ≡ Some crown → h.crowns s ≡ Some crown
  pub room : (v : ℕ) → k.room v ≤ h.room v
  pub spare : (s : ℕ) → k.spare s ≤ h.spare s
