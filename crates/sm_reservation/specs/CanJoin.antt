-- When two holds can be put together.
use Rattle.std.specs.Prelude.{◌≡◌, ◌<◌, ◌+◌, ◌^◌, ℕ, Option, Some, None}
use Rattle.sm_placement.specs.declared.lead.Lead.{Lead}
use Rattle.sm_reservation.specs.declared.right.PlainCell.{PlainCell}
use Rattle.sm_reservation.specs.Hold.{Hold}

-- no cell right and no crown is in both
pub record AreApart (h k : Hold) : Type 0 where
  pub cells : (s v : ℕ) (state : PlainCell) → k.cells s v ≡ Some state → h.cells s v ≡ None
  pub crowns : (s : ℕ) (crown : Lead × Option ℕ) → k.crowns s ≡ Some crown → h.crowns s ≡ None

-- no cell right and no crown is in both, and no sum of amounts passes a u64
pub record CanJoin (h k : Hold) : Type 0 where
  pub cells : (s v : ℕ) (state : PlainCell) → k.cells s v ≡ Some state → h.cells s v ≡ None
  pub crowns : (s : ℕ) (crown : Lead × Option ℕ) → k.crowns s ≡ Some crown → h.crowns s ≡ None
  pub room : (v : ℕ) → h.room v + k.room v < 2 ^ 64
  pub spare : (s : ℕ) → h.spare s + k.spare s < 2 ^ 64
