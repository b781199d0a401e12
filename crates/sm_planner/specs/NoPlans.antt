-- Why there is no plan, as a refusal.
use Rattle.std.specs.Prelude.{ℕ, List, [], ◌∷◌, codes}
use Rattle.sm_placement.specs.Setup.{Setup}
use Rattle.sm_planner.specs.declared.refusal.NoPlan.{NoPlan}
use Rattle.sm_planner.specs.declared.refusal.NoPlan.TheVariants as no_plan
use Rattle.sm_refusals.specs.Refusals.{FieldModel, RefusalModel, server_field, shard_field}

-- there is no plan, under this number and kind
abbrev pub no_plan_as : ℕ → List ℕ → List FieldModel → RefusalModel
no_plan_as n kind fields = record { front = codes "no plan: "; number = n; kind = kind; fields = fields }

-- why there is no plan
abbrev pub no_plan_refusal : Setup → NoPlan → RefusalModel
no_plan_refusal setup no_plan.NoMemory = no_plan_as 1 (codes "NoMemory") []
no_plan_refusal setup (no_plan.NotThere s v) = no_plan_as 2 (codes "NotThere") (shard_field setup s ∷ server_field setup v ∷ [])
no_plan_refusal setup (no_plan.Held s v) = no_plan_as 3 (codes "Held") (shard_field setup s ∷ server_field setup v ∷ [])
no_plan_refusal setup (no_plan.ServerDown v) = no_plan_as 4 (codes "ServerDown") (server_field setup v ∷ [])
no_plan_refusal setup (no_plan.NoRoom v) = no_plan_as 5 (codes "NoRoom") (server_field setup v ∷ [])
no_plan_refusal setup (no_plan.NoPlace s) = no_plan_as 6 (codes "NoPlace") (shard_field setup s ∷ [])
no_plan_refusal setup (no_plan.Spread s) = no_plan_as 7 (codes "Spread") (shard_field setup s ∷ [])
no_plan_refusal setup no_plan.TooMany = no_plan_as 8 (codes "TooMany") []
