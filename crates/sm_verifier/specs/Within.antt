-- How much of each right the streams of a plan declare together, over the numbers of the streams.
use Rattle.std.specs.Prelude.{◌≡◌, ◌≤◌, ℕ, List, length}
use Rattle.sm_placement.specs.declared.lead.Lead.{Lead}
use Rattle.sm_placement.specs.Sums.{sum_below}
use Rattle.sm_placement.specs.Setup.{Sizes}
use Rattle.sm_placement.specs.Place.{Place}
use Rattle.sm_reservation.specs.declared.right.Key.{Key}
use Rattle.sm_reservation.specs.Hold.{Hold}
use Rattle.sm_reservation.specs.Amounts.{Right, count}
use Rattle.sm_plan_code.specs.Plan.{StreamModel, PlanModel, IsKnownPlan}
use Rattle.sm_plan_code.specs.Effects.{IsScene}
use Rattle.sm_verifier.specs.Admission.{declared, Has, AreUp, IsAdmitted}

-- how much of a right the streams declare together
abbrev pub declared_sum : List StreamModel → Right → ℕ
declared_sum streams r = sum_below (length streams) (λ i. count (declared streams i) r)

-- of each right, cell rights and crowns too, the streams declare together no more than the pool has
abbrev pub AreWithin : Hold → List StreamModel → Type 0
AreWithin pool streams = (r : Right) → declared_sum streams r ≤ count pool r

-- no two streams declare one cell right or one crown
abbrev pub AreDeclaredOnce : List StreamModel → Type 0
AreDeclaredOnce streams = (i j : ℕ) (key : Key) → Has (declared streams i) key → Has (declared streams j) key → i ≡ j

-- what an admitted plan declares is within the pool, each cell right and crown by one stream
abbrev pub AdmittedIsWithin : Type 0
AdmittedIsWithin = (c : Sizes) (p : Place) (pool : Hold) (plan : PlanModel) →
    IsAdmitted c p pool plan → AreWithin pool plan.streams × AreDeclaredOnce plan.streams

-- at a pool that is true of the placement, what is within the pool is admitted if the servers are up
abbrev pub WithinIsAdmitted : Type 0
WithinIsAdmitted = (c : Sizes) (p : Place) (leads : ℕ → Lead) (numbers : ℕ → ℕ) (pool : Hold) (plan : PlanModel) →
    IsScene c p leads numbers pool → IsKnownPlan c.shards c.servers plan → AreWithin pool plan.streams
    → AreUp p plan.streams → IsAdmitted c p pool plan
