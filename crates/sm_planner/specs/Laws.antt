-- Laws of the rule's plans.
-- `HasScene` is internal: you need not read it for the public contracts.
use Rattle.std.specs.Prelude.{◌≡◌, ◌≢◌, ◌⊎◌, ◌<◌, ◌≤◌, ℕ, true, false, None, option_map, List, All, length}
use Rattle.sm_server.specs.declared.call.Cell.TheVariants as cell
use Rattle.sm_server.specs.Cell.{is_primary}
use Rattle.sm_placement.specs.declared.lead.Lead.{Lead}
use Rattle.sm_placement.specs.Setup.{Setup, IsSetup, sizes_of}
use Rattle.sm_placement.specs.Place.{Place}
use Rattle.sm_plan_code.specs.Plan.{PlanModel, KnowsSignals}
use Rattle.sm_plan_code.specs.Effects.{IsScene}
use Rattle.sm_plan_code.specs.declared.moves.Move.{Move}
use Rattle.sm_verifier.specs.Admission.{IsAdmitted}
use Rattle.sm_verifier.specs.Order.{HasOrder}
use Rattle.sm_verifier.specs.Plan.{KeepsBudget, AreUsedOnce}
use Rattle.sm_verifier.specs.PlanEnd.{end_of}
use Rattle.sm_protocol.specs.State.{State}
use Rattle.sm_protocol.specs.Laws.{IsCheckedPlan, IsReached}
use Rattle.sm_planner.specs.declared.refusal.NoPlan.{NoPlan}
use Rattle.sm_planner.specs.Basis.{Basis, basis_at, IsMoveOf, move_at, left_cell, is_replica}
use Rattle.sm_planner.specs.Plan.{planned}
use Rattle.sm_planner.specs.Drain.{drain_refusal, AreLeaving}
use Rattle.sm_planner.specs.Spread.{region_count, spread_of}
use Rattle.sm_planner.specs.Refusal.{IsRefused, IsPlanOf}

-- The streams' budgets add up to the plan's at most, each signal is of the plan, posted once and awaited once, and
-- there is an order of all steps.
pub record IsOrderly (plan : PlanModel) : Type 0 where
  pub budget : KeepsBudget plan
  pub known : KnowsSignals plan
  pub signals : AreUsedOnce plan (length plan.signals)
  pub order : HasOrder plan

-- so is the plan of any moves in any order
abbrev pub PlansAreOrderly : Type 0
PlansAreOrderly = (b : Basis) (order : List Move) → IsOrderly (planned b order)

-- the plan would pass the check, and is admitted at the placement with its pool
pub record IsUsable (b : Basis) (plan : PlanModel) : Type 0 where
  pub checked : IsCheckedPlan (sizes_of b.setup) plan
  pub admitted : IsAdmitted (sizes_of b.setup) b.place b.pool plan

-- the placement is of the configuration, and the pool is true of it
abbrev pub HasScene : Basis → Type 0
HasScene b = (leads : ℕ → Lead) × (numbers : ℕ → ℕ) × IsScene (sizes_of b.setup) b.place leads numbers b.pool

-- so it is of the rule's plan of moves of the configuration, at a pool that is true of the placement
abbrev pub PlansAreUsable : Type 0
PlansAreUsable = (b : Basis) (leads : ℕ → Lead) (numbers : ℕ → ℕ) (moves : List Move) (plan : PlanModel) →
    IsSetup b.setup → IsScene (sizes_of b.setup) b.place leads numbers b.pool → All (IsMoveOf b.setup) moves
    → IsPlanOf b moves plan → IsUsable b plan

-- and at each state that events lead to, with the rights that no stream has there
abbrev pub PlansAreUsableAt : Type 0
PlansAreUsableAt = (setup : Setup) (w : State) (moves : List Move) (plan : PlanModel) →
    IsReached setup w → All (IsMoveOf setup) moves → IsPlanOf (basis_at setup w) moves plan
    → IsUsable (basis_at setup w) plan

-- Each replica that is moved has left its server, and stands at the new one as it stood at the old one; if nothing is
-- moved to or from, all is as before. If the published map names a server of a shard whose primary is moved, it names
-- the new one; of all other shards it says what it said before.
pub record HasMoved (old new : Place) (moves : List Move) : Type 0 where
  pub left : (i : ℕ) → i < length moves → new.cells (move_at moves i).shard (move_at moves i).from ≡ cell.Absent
  pub come : (i : ℕ) → i < length moves
      → new.cells (move_at moves i).shard (move_at moves i).to ≡ left_cell old (move_at moves i)
  pub others : (s v : ℕ) →
      ((i : ℕ) → i < length moves → (move_at moves i).shard ≡ s
      → ((move_at moves i).to ≢ v) × ((move_at moves i).from ≢ v)) → new.cells s v ≡ old.cells s v
  pub listed : (i : ℕ) → i < length moves → is_primary (left_cell old (move_at moves i)) ≡ true →
      new.listed (move_at moves i).shard ≡ option_map (λ v. (move_at moves i).to) (old.listed (move_at moves i).shard)
  pub unchanged : (s : ℕ) → ((i : ℕ) → i < length moves → (move_at moves i).shard ≡ s
      → is_primary (left_cell old (move_at moves i)) ≡ false) →
      new.listed s ≡ old.listed s

-- so it is at the end of the rule's plan
abbrev pub PlansMove : Type 0
PlansMove = (b : Basis) (moves : List Move) (plan : PlanModel) →
    All (IsMoveOf b.setup) moves → IsPlanOf b moves plan
    → HasMoved b.place (end_of (sizes_of b.setup) plan b.place) moves

-- the shard's replicas lie in as many regions as it is to be in, or in more
abbrev pub IsSpread : Setup → Place → ℕ → Type 0
IsSpread setup p s = spread_of setup s ≤ region_count setup (λ v. is_replica (p.cells s v))

-- so it is of each moved shard at the end of the rule's plan
abbrev pub PlansSpread : Type 0
PlansSpread = (b : Basis) (moves : List Move) (plan : PlanModel) (i : ℕ) →
    All (IsMoveOf b.setup) moves → IsPlanOf b moves plan → i < length moves →
    IsSpread b.setup (end_of (sizes_of b.setup) plan b.place) (move_at moves i).shard

-- the rule has a plan for the moves or a reason why not, never both, and never two of either
pub record AnswersOnce (b : Basis) (moves : List Move) : Type 0 where
  pub some : ((plan : PlanModel) × IsPlanOf b moves plan) ⊎ ((why : NoPlan) × IsRefused b moves why)
  pub one_plan : (plan other : PlanModel) → IsPlanOf b moves plan → IsPlanOf b moves other → plan ≡ other
  pub one_reason : (why other : NoPlan) → IsRefused b moves why → IsRefused b moves other → why ≡ other
  pub not_both : (plan : PlanModel) (why : NoPlan) → IsPlanOf b moves plan → IsRefused b moves why → ⊥

-- so the rule answers all moves, at each placement and pool
abbrev pub RuleAnswersOnce : Type 0
RuleAnswersOnce = (b : Basis) (moves : List Move) → AnswersOnce b moves

-- At the end of the plan of a drain's moves the server has nothing of any shard, each shard that it had is spread, and
-- the plan is as good as any of the rule's.
pub record IsDrained (b : Basis) (v : ℕ) (plan : PlanModel) : Type 0 where
  pub empty : (s : ℕ) → s < (sizes_of b.setup).shards → (end_of (sizes_of b.setup) plan b.place).cells s v ≡ cell.Absent
  pub spread : (s : ℕ) → s < (sizes_of b.setup).shards → b.place.cells s v ≢ cell.Absent
      → IsSpread b.setup (end_of (sizes_of b.setup) plan b.place) s
  pub usable : (leads : ℕ → Lead) (numbers : ℕ → ℕ) → IsSetup b.setup
      → IsScene (sizes_of b.setup) b.place leads numbers b.pool → IsUsable b plan

-- so it is of the rule's plan of a drain's moves
abbrev pub DrainsEmpty : Type 0
DrainsEmpty = (b : Basis) (v : ℕ) (moves : List Move) (plan : PlanModel) →
    v < (sizes_of b.setup).servers → AreLeaving b v (sizes_of b.setup).shards moves → IsPlanOf b moves plan
    → IsDrained b v plan

-- in a configuration the rule refuses none of the moves of a drain: if the server may be emptied and each shard has a
-- target, there is a plan
abbrev pub DrainsHavePlans : Type 0
DrainsHavePlans = (b : Basis) (v : ℕ) (moves : List Move) →
    IsSetup b.setup → drain_refusal b v ≡ None → AreLeaving b v (sizes_of b.setup).shards moves
    → (plan : PlanModel) × IsPlanOf b moves plan
