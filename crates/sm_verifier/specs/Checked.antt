-- Checked plans: what contracts see of them, and what each of them keeps.
-- `IsChecked`, with `AreFinals` and `ArePeaks`, is what a `Checked` keeps, and `checked_model` is internal: you need
-- not read them for the public contracts.
use Rattle.std.specs.Prelude.{◌≡◌, ◌<◌, ℕ, List, length, slice_index, slice_index_or}
use Rattle.sm_placement.specs.Setup.{Setup, Sizes, sizes_of}
use Rattle.sm_reservation.specs.Rights.{Rights, no_rights}
use Rattle.sm_reservation.specs.HoldOf.{hold_of}
use Rattle.sm_plan_code.specs.Plan.{PlanModel, IsKnownPlan}
use Rattle.sm_verifier.specs.Stream.{stream_at, final_hold}
use Rattle.sm_verifier.specs.Peak.{IsPeak}
use Rattle.sm_verifier.specs.Order.{PlanStep, IsOrder}
use Rattle.sm_verifier.specs.Plan.{IsSound}

-- A checked plan: the configuration and the plan, an order of its steps, and for each stream what it holds at its end
-- and the most keys that one list of its hold has.
pub record CheckedModel : Type 0 where
  pub setup : Setup
  pub plan : PlanModel
  pub order : List PlanStep
  pub finals : List Rights
  pub peaks : List ℕ

-- the checked plan of this configuration and this plan, with an order of its steps, and its streams' rights at the end
-- and peaks
abbrev pub checked_model : Setup → PlanModel → List PlanStep → List Rights → List ℕ → CheckedModel
checked_model setup plan order finals peaks = record { setup = setup; plan = plan; order = order; finals = finals; peaks = peaks }

-- the parcels are what the first n streams hold at their ends
pub record AreFinals (c : Sizes) (plan : PlanModel) (n : ℕ) (finals : List Rights) : Type 0 where
  pub count : length finals ≡ n
  pub each : (i : ℕ) → i < n → hold_of (slice_index_or finals i no_rights) ≡ final_hold (stream_at c plan i)

-- the numbers are the peaks that the first n streams take
pub record ArePeaks (c : Sizes) (plan : PlanModel) (n : ℕ) (peaks : List ℕ) : Type 0 where
  pub count : length peaks ≡ n
  pub each : (i : ℕ) → i < n → IsPeak (stream_at c plan i) (slice_index peaks i)

-- what every checked plan keeps
pub record IsChecked (p : CheckedModel) : Type 0 where
  pub fits : IsKnownPlan (length p.setup.shards) (length p.setup.servers) p.plan
  pub sound : IsSound (sizes_of p.setup) p.plan
  pub order : IsOrder p.plan p.order
  pub finals : AreFinals (sizes_of p.setup) p.plan (length p.plan.streams) p.finals
  pub peaks : ArePeaks (sizes_of p.setup) p.plan (length p.plan.streams) p.peaks
