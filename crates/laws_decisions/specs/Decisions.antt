-- Decisions on the record. Calls of which no answer has come may have had their effects, and publications may have been
-- taken. Had the record these effects, it would be one in which the answers of these calls are lost, and these
-- publications are made. The controller's decisions are the same there. Only the reason why a plan does not begin may
-- be another: what is Taken here may be Untrue there.
use Rattle.std.specs.Prelude.{◌≡◌, ◌≢◌, ◌↔◌, ◌<◌, ◌||◌, ℕ, Bool, true, false, List, [], ◌∷◌, is_some, length, map}
use Rattle.std.specs.List.{AllByRecursion}
use Rattle.sm_placement.specs.Setup.{Setup}
use Rattle.sm_reservation.specs.declared.stream_id.StreamId.{StreamId}
use Rattle.sm_plan_code.specs.Plan.{PlanModel}
use Rattle.sm_protocol.specs.declared.event.Played.TheVariants as played
use Rattle.sm_protocol.specs.State.{State}
use Rattle.sm_protocol.specs.Steps.{Answered}
use Rattle.sm_protocol.specs.Next.{next_call_of, next_entry_of}
use Rattle.sm_protocol.specs.Happens.{Approve, Begin, Lose, happens, run}
use Rattle.sm_protocol.specs.Laws.{IsCheckedPlan}
use Rattle.laws_network.specs.Net.{cell_above}
use Rattle.laws_network.specs.Fleet.{Fleet, controller, has_lost}

-- the stream stands before a call or an entry of the published map: an order or a publication of it is under way, or
-- will be
abbrev pub is_awaiting : State → StreamId → Bool
is_awaiting w id = is_some (next_call_of w id) || is_some (next_entry_of w id)

-- no stream is named twice
abbrev pub AreNamedOnce : List StreamId → Type 0
AreNamedOnce [] = Unit {0}
AreNamedOnce (id ∷ ids) = AllByRecursion (λ other. other ≢ id) ids × AreNamedOnce ids

-- These are streams of whose orders and publications the effects may be there, and are not recorded.
pub record AreAwaiting (w : State) (ids : List StreamId) : Type 0 where
  pub apart : AreNamedOnce ids
  pub awaiting : AllByRecursion (λ id. is_awaiting w id ≡ true) ids

-- the record in which each of these streams' calls has had its effect and the answer is lost, and each of their
-- publications is made
abbrev pub with_effects : List StreamId → State → State
with_effects ids w = run (map (λ id. Lose id true) ids) w

-- The servers that have their slots have what the record says with the effects of some streams, with the base in
-- handover numbers.
pub record AreTold (f : Fleet) : Type 0 where
  pub ids : List StreamId
  pub awaiting : AreAwaiting (controller f).w ids
  pub cells : (s v : ℕ) → s < (controller f).w.sizes.shards → v < (controller f).w.sizes.servers
      → has_lost f v ≡ false →
      ((f.servers v).slots s).cell ≡ cell_above (controller f).base ((with_effects ids (controller f).w).place.cells s v)

-- wherever events lead, it is
abbrev pub EffectsAreTold : Setup → Fleet → Type 0
EffectsAreTold setup f = AreTold f

-- a plan begins, under the next number
abbrev pub Begins : State → PlanModel → Type 0
Begins w plan = (happens w (Begin plan)).0 ≡ Answered (played.Begun (length w.plans))

-- a question for a restart gets the same answer
abbrev pub ApprovesAlike : Setup → Fleet → Type 0
ApprovesAlike setup f = (ids : List StreamId) (v : ℕ) → AreAwaiting (controller f).w ids →
    (happens (with_effects ids (controller f).w) (Approve v)).0 ≡ (happens (controller f).w (Approve v)).0

-- a checked plan begins, or does not
abbrev pub StartsAlike : Setup → Fleet → Type 0
StartsAlike setup f = (ids : List StreamId) (plan : PlanModel) → AreAwaiting (controller f).w ids
    → IsCheckedPlan (controller f).w.sizes plan →
    Begins (with_effects ids (controller f).w) plan ↔ Begins (controller f).w plan
