-- When a hold is true of a placement.
use Rattle.std.specs.Prelude.{ℕ, ◌+◌, ◌≤◌}
use Rattle.sm_placement.specs.declared.lead.Lead.{Lead}
use Rattle.sm_placement.specs.Setup.{Sizes}
use Rattle.sm_placement.specs.Place.{Place}
use Rattle.sm_reservation.specs.Hold.{Hold}
use Rattle.sm_reservation.specs.Amounts.{Right, count, stock, bound}

-- Every right of the hold is true of a placement with these leads: each cell right and crown says what is there, and
-- its room and spare replicas are within what there is beside the loads and the floors.
pub record IsTrueOf (c : Sizes) (p : Place) (leads : ℕ → Lead) (h : Hold) : Type 0 where
  pub rights : (r : Right) → count h r + bound c p r ≤ stock c p leads r
