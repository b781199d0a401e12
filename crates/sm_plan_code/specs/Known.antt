-- Holds that stay of known shards and servers along the code of a plan that fits, and instructions that are reachable.
use Rattle.std.specs.Prelude.{◌≡◌, ℕ, Bool, false, Some, Ok, List, All, slice_get, slice_index_or}
use Rattle.sm_placement.specs.Setup.{Sizes}
use Rattle.sm_placement.specs.Place.{Place, set_down}
use Rattle.sm_reservation.specs.Rights.{Rights, no_rights}
use Rattle.sm_reservation.specs.Key.{IsOrdered}
use Rattle.sm_reservation.specs.Hold.{Hold}
use Rattle.sm_reservation.specs.HoldOf.{hold_of}
use Rattle.sm_reservation.specs.Pool.{IsKnownHold}
use Rattle.sm_plan_code.specs.declared.instruction.Instr.{Instr}
use Rattle.sm_plan_code.specs.Instr.{names_of, Mentions}
use Rattle.sm_plan_code.specs.Plan.{StreamModel, PlanModel, HasOrderedParcels, IsKnownInstr, IsKnownParcel, IsKnownPlan}
use Rattle.sm_plan_code.specs.After.{after, hold_at}
use Rattle.sm_plan_code.specs.Effects.{IsReachable}

-- each signal's parcel is in order, and of known shards and servers: those below these numbers
pub record AreKnownSignals (shards servers : ℕ) (signals : ℕ → Rights) : Type 0 where
  pub ordered : (k : ℕ) → IsOrdered (signals k)
  pub below : (k : ℕ) → IsKnownHold shards servers (hold_of (signals k))

-- A hold stays of known shards and servers: a parcel that fits is, what an instruction that fits leaves of such a
-- hold is, and so is what is held anywhere along a code that fits.
pub record HoldsStayKnown : Type 0 where
  pub parcel : (shards servers : ℕ) (p : Rights) → IsKnownParcel shards servers p
      → IsKnownHold shards servers (hold_of p)
  pub signals : (shards servers : ℕ) (plan : PlanModel) → HasOrderedParcels plan → IsKnownPlan shards servers plan
      → AreKnownSignals shards servers (λ k. slice_index_or plan.signals k no_rights)
  pub step : (c : Sizes) (signals : ℕ → Rights) (h h' : Hold) (i : Instr) (shards servers : ℕ)
      → AreKnownSignals shards servers signals → IsKnownInstr shards servers i →
      IsKnownHold shards servers h → after c signals i h ≡ Ok h' → IsKnownHold shards servers h'
  pub along : (c : Sizes) (signals : ℕ → Rights) (code : List Instr) (h : Hold) (shards servers : ℕ)
      → AreKnownSignals shards servers signals → All (IsKnownInstr shards servers) code →
      IsKnownHold shards servers h → (p : ℕ) → IsKnownHold shards servers (hold_at c signals code h p)

-- An instruction of a plan that fits does; one that fits is reachable while the servers that it mentions are up; and it
-- stays so under another placement in which they are, as after another server goes down or up.
pub record StaysReachable : Type 0 where
  pub fits : (shards servers : ℕ) (plan : PlanModel) (k p : ℕ) (stream : StreamModel) (i : Instr)
      → IsKnownPlan shards servers plan →
      slice_get plan.streams k ≡ Some stream → slice_get stream.code p ≡ Some i → IsKnownInstr shards servers i
  pub reachable : (c : Sizes) (p : Place) (i : Instr) → IsKnownInstr c.shards c.servers i
      → ((v : ℕ) → Mentions (names_of i) v → p.down v ≡ false) → IsReachable c p i
  pub same : (c : Sizes) (p q : Place) (i : Instr) → ((v : ℕ) → Mentions (names_of i) v → q.down v ≡ p.down v)
      → IsReachable c p i → IsReachable c q i
  pub restarted : (c : Sizes) (p : Place) (i : Instr) (v : ℕ) (down : Bool) → ¬ Mentions (names_of i) v
      → IsReachable c p i → IsReachable c (set_down p v down) i
