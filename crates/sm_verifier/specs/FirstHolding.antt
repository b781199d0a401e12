-- The search for what holds a plan up: the rules in their order, each over all streams, servers or shards.
use Rattle.std.specs.Prelude.{◌≡◌, ◌↔◌, ℕ, Bool, nat_le, Option, Some, None, List, length, take, slice_index_or}
use Rattle.std.specs.Prelude.{option_map, if◌then◌else◌}
use Rattle.std.specs.Option.{option_or}
use Rattle.sm_placement.specs.Sums.{first_from}
use Rattle.sm_placement.specs.Setup.{Sizes}
use Rattle.sm_placement.specs.Place.{Place}
use Rattle.sm_reservation.specs.declared.right.CellRight.{CellRight}
use Rattle.sm_reservation.specs.declared.right.Crown.{Crown}
use Rattle.sm_reservation.specs.declared.right.Key.{Key}
use Rattle.sm_reservation.specs.Rights.{Rights}
use Rattle.sm_reservation.specs.Hold.{Hold}
use Rattle.sm_reservation.specs.Pool.{true_rights}
use Rattle.sm_plan_code.specs.Plan.{StreamModel, PlanModel, HasOrderedParcels, IsKnownPlan}
use Rattle.sm_verifier.specs.declared.admission.Holding.{Holding}
use Rattle.sm_verifier.specs.declared.admission.Holding.TheVariants.{Untrue, Taken, ShortRoom, ShortSpare, ServerDown}
use Rattle.sm_verifier.specs.Stream.{no_stream}
use Rattle.sm_verifier.specs.Admission.{declared_room, declared_spare, IsAdmitted, IsHolding}
use Rattle.sm_verifier.specs.Finding.{holds_cell, holds_crown, is_free_cell, is_free_crown, first_cell, first_crown}
use Rattle.sm_verifier.specs.Downs.{down_in_streams}

-- the key of the first right of a parcel that does not pass: of its cell rights, or otherwise of its crowns
abbrev pub first_key : (CellRight → Bool) → (Crown → Bool) → Rights → Option Key
first_key cell crown r = option_or (first_cell cell r.cells) (first_crown crown r.crowns)

-- what the stream at a number declares, as lists of rights
abbrev pub declared_rights : List StreamModel → ℕ → Rights
declared_rights streams i = (slice_index_or streams i no_stream).holds

-- the first declared key that is not true of the placement
abbrev pub first_untrue : Sizes → Place → List StreamModel → Option Key
first_untrue c p streams =
    first_from 0 (length streams) (λ i. first_key (holds_cell (true_rights c p)) (holds_crown (true_rights c p)) (declared_rights streams i))

-- the first declared key that is not in the pool, or that an earlier stream declares
abbrev pub first_taken : Hold → List StreamModel → Option Key
first_taken pool streams =
    first_from 0 (length streams) (λ i. first_key (is_free_cell pool (take i streams)) (is_free_crown pool (take i streams)) (declared_rights streams i))

-- the lowest server of which the streams declare more room than the pool has
abbrev pub first_short_room : ℕ → Hold → List StreamModel → Option Holding
first_short_room servers pool streams =
    first_from 0 servers (λ v. if nat_le (declared_room streams v) (pool.room v) then None else Some (ShortRoom v (pool.room v) (declared_room streams v)))

-- the lowest shard of which the streams declare more spare replicas than the pool has
abbrev pub first_short_spare : ℕ → Hold → List StreamModel → Option Holding
first_short_spare shards pool streams =
    first_from 0 shards (λ s. if nat_le (declared_spare streams s) (pool.spare s) then None else Some (ShortSpare s (pool.spare s) (declared_spare streams s)))

-- what holds a plan up at a placement with its pool, if anything does
unfoldable pub first_holding : Sizes → Place → Hold → PlanModel → Option Holding
first_holding c p pool plan =
    option_or (option_map (λ key. Untrue key) (first_untrue c p plan.streams))
    (option_or (option_map (λ key. Taken key) (first_taken pool plan.streams))
    (option_or (first_short_room c.servers pool plan.streams)
    (option_or (first_short_spare c.shards pool plan.streams)
    (option_map (λ v. ServerDown v) (down_in_streams p.down None plan.streams)))))

-- nothing is found exactly if the plan is admitted, and what is found is what holds it up
pub record DecidesHolding (c : Sizes) (p : Place) (pool : Hold) (plan : PlanModel) : Type 0 where
  pub none : (first_holding c p pool plan ≡ None) ↔ IsAdmitted c p pool plan
  pub some : (holding : Holding) → (first_holding c p pool plan ≡ Some holding) ↔ IsHolding c p pool plan holding

-- so it is for each plan of the configuration whose parcels are in order
abbrev pub FindsHolding : Type 0
FindsHolding = (c : Sizes) (p : Place) (pool : Hold) (plan : PlanModel) → HasOrderedParcels plan
    → IsKnownPlan c.shards c.servers plan → DecidesHolding c p pool plan
