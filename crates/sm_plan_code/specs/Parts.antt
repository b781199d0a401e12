-- The arguments of a plan, and what is inside a plan.
use Rattle.sm_plan_code.specs.declared.plan.Parts.{Parts}
use Rattle.sm_plan_code.specs.declared.plan.Plan.TheInside.{Inside}
use Rattle.sm_plan_code.specs.Plan.{PlanModel}

-- the plan that the arguments make: a budget, streams, and what each signal carries
abbrev pub parts_of : Parts → PlanModel
parts_of p = record { budget = p.budget; streams = p.streams.items; signals = p.signals.items }

-- a plan in memory as contracts see it
abbrev pub plan_of : Inside → PlanModel
plan_of p = record { budget = p.budget; streams = p.streams.items; signals = p.signals.items }
