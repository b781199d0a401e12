-- Instructions in their turn: what a good stream is left with, and when a plan's instructions can be made.
use Rattle.std.specs.Prelude.{◌≡◌, ◌≤◌, ◌+◌, ℕ, suc, Ok, Some, slice_get}
use Rattle.sm_placement.specs.Sums.{bit}
use Rattle.sm_placement.specs.Setup.{Sizes}
use Rattle.sm_placement.specs.Place.{Place}
use Rattle.sm_plan_code.specs.declared.instruction.Instr.{Instr}
use Rattle.sm_plan_code.specs.Instr.{is_call}
use Rattle.sm_plan_code.specs.After.{after}
use Rattle.sm_plan_code.specs.Plan.{PlanModel, IsKnownPlan}
use Rattle.sm_plan_code.specs.Effects.{IsReachable}
use Rattle.sm_verifier.specs.Step.{parcels_of}
use Rattle.sm_verifier.specs.Stream.{Course, hold_before, calls_before, IsGood}
use Rattle.sm_verifier.specs.Order.{code_at}
use Rattle.sm_verifier.specs.Admission.{AreUp}

-- The instruction leads from the hold before it to the one before the next, and a call is one more, within the budget.
pub record IsInTurn (s : Course) (p : ℕ) (i : Instr) : Type 0 where
  pub leaves : after s.sizes (parcels_of s.signals) i (hold_before s p) ≡ Ok (hold_before s (suc p))
  pub calls : calls_before s (suc p) ≡ calls_before s p + bit (is_call i)
  pub within : calls_before s (suc p) ≤ s.budget

-- so it is of each instruction of a good stream
abbrev pub GoodStreamsGoOn : Type 0
GoodStreamsGoOn = (s : Course) (p : ℕ) (i : Instr) → IsGood s → slice_get s.code p ≡ Some i → IsInTurn s p i

-- each instruction of a plan of the configuration can be made if the servers that the plan mentions are up
abbrev pub InstrsAreReachable : Type 0
InstrsAreReachable = (c : Sizes) (p : Place) (plan : PlanModel) (i at : ℕ) (instr : Instr) →
    IsKnownPlan c.shards c.servers plan → AreUp p plan.streams → slice_get (code_at plan i) at ≡ Some instr
    → IsReachable c p instr
