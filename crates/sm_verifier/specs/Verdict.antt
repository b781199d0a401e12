-- When two faults of a plan say the same, and that each plan has a verdict.
use Rattle.std.specs.Prelude.{◌≡◌, ◌≢◌, ◌⊎◌}
use Rattle.sm_placement.specs.Setup.{Sizes}
use Rattle.sm_plan_code.specs.Plan.{PlanModel, IsPlan, IsKnownPlan}
use Rattle.sm_verifier.specs.declared.checking.Fault.{Fault}
use Rattle.sm_verifier.specs.declared.checking.Fault.TheVariants.{NoMemory, Stuck}
use Rattle.sm_verifier.specs.Plan.{IsSound, IsFault}

-- the same fault: if the streams wait for one another, with the same positions in the same order
abbrev pub IsSameFault : Fault → Fault → Type 0
IsSameFault (Stuck positions) (Stuck others) = positions.items ≡ others.items
IsSameFault f g = f ≡ g

-- the plan is sound, or has a fault that no want of memory explains
abbrev pub HasVerdict : Sizes → PlanModel → Type 0
HasVerdict c plan = IsSound c plan ⊎ ((f : Fault) × IsFault c plan f × (f ≢ NoMemory))

-- so it is for each plan of the configuration
abbrev pub FindsFault : Type 0
FindsFault = (c : Sizes) (plan : PlanModel) → IsPlan plan → IsKnownPlan c.shards c.servers plan → HasVerdict c plan
