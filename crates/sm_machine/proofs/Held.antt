-- The reason why a plan may not start, seen by the whole.
use Rattle.std.proofs.Common.{◌≡◌, length, sym, ap, ◌∙◌, subst, Some, None}
use Rattle.sm_placement.specs.Setup.{sizes_of}
use Rattle.sm_placement.specs.Layout.{place_of}
use Rattle.sm_reservation.specs.declared.right.Key.{Key}
use Rattle.sm_reservation.specs.Pool.{pool_hold, true_rights}
use Rattle.sm_plan_code.specs.Plan.{PlanModel, IsPlan, IsKnownPlan}
use Rattle.sm_verifier.specs.declared.admission.Holding.{Holding}
use Rattle.sm_verifier.specs.Admission.{IsAdmitted, IsHolding, IsIn}
use Rattle.sm_verifier.specs.FirstHolding.{first_holding, DecidesHolding}
use Rattle.sm_verifier.specs.Checked.{CheckedModel}
use Rattle.sm_verifier.proofs.Holdings.{finds_holding}
use Rattle.sm_machine.specs.Machine.{MachineModel}
use Rattle.sm_machine.specs.State.{whole_of}

-- a pool that is true of the placement is so inside
pub true_inside : (b w : MachineModel) → b ≡ w → ((key : Key) → IsIn (whole_of w).pool (true_rights (whole_of w).state.sizes (whole_of w).state.place) key) → (key : Key) → IsIn (pool_hold b.pool) (true_rights (sizes_of b.placement.setup) (place_of b.placement)) key
unfolding whole_of
true_inside b w z into = subst (λ (m : MachineModel). (key : Key) → IsIn (pool_hold m.pool) (true_rights (sizes_of m.placement.setup) (place_of m.placement)) key) (sym z) into

module _ (b w : MachineModel) (z : b ≡ w) (p : CheckedModel) (same : p.setup ≡ w.placement.setup) (plan : PlanModel) (is : plan ≡ p.plan) (parts : IsPlan plan) (fits : IsKnownPlan (length p.setup.shards) (length p.setup.servers) plan) where
  decides : DecidesHolding (sizes_of p.setup) (place_of b.placement) (pool_hold b.pool) p.plan
  decides =
      let parts' : IsPlan p.plan = subst IsPlan is parts in
      finds_holding (sizes_of p.setup) (place_of b.placement) (pool_hold b.pool) p.plan parts'.parcels (subst (λ m. IsKnownPlan (length p.setup.shards) (length p.setup.servers) m) is fits)

  seen : first_holding (sizes_of p.setup) (place_of b.placement) (pool_hold b.pool) p.plan ≡ first_holding (whole_of w).state.sizes (whole_of w).state.place (whole_of w).pool p.plan
  unfolding whole_of
  seen = ap (λ (m : MachineModel). first_holding (sizes_of p.setup) (place_of m.placement) (pool_hold m.pool) p.plan) z ∙ ap (λ s. first_holding (sizes_of s) (place_of w.placement) (pool_hold w.pool) p.plan) same

  -- where a plan is admitted, the first holding that the whole gives is none
  pub not_held : IsAdmitted (sizes_of p.setup) (place_of b.placement) (pool_hold b.pool) p.plan → None ≡ first_holding (whole_of w).state.sizes (whole_of w).state.place (whole_of w).pool p.plan
  not_held a = sym (decides.none.1 a) ∙ seen

  -- what holds a plan up is the first holding that the whole gives
  pub held_up : (why : Holding) → IsHolding (sizes_of p.setup) (place_of b.placement) (pool_hold b.pool) p.plan why → Some why ≡ first_holding (whole_of w).state.sizes (whole_of w).state.place (whole_of w).pool p.plan
  held_up why h = sym ((decides.some why).1 h) ∙ seen
