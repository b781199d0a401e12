-- Hands of events: what of a hand is the protocol's, and the room that it has for what events add.
-- Public functions' contracts come to `hand_plan`, `hand_of`, `game_of`, `AreFor`, `AreLeft` and `IsSameHand` alone.
-- The others are internal: you need not read them for the public contracts.
use Rattle.std.specs.Prelude.{◌≡◌, ◌≤◌, ◌<◌, ℕ, suc, ◌+◌, ◌++◌, Bool, true, false, Option, Some, None, List, [], ◌∷◌}
use Rattle.std.specs.Prelude.{length, map, slice_index_or, vec_capacity}
use Rattle.std.specs.List.{sum_by}
use Rattle.sm_placement.specs.Setup.{Setup}
use Rattle.sm_plan_code.specs.Plan.{PlanModel}
use Rattle.sm_verifier.specs.Checked.{CheckedModel}
use Rattle.sm_protocol.specs.declared.event.Event.{Event}
use Rattle.sm_protocol.specs.declared.event.Event.TheVariants as event
use Rattle.sm_protocol.specs.declared.event.Played.{Played}
use Rattle.sm_protocol.specs.declared.event.Played.TheVariants as played
use Rattle.sm_protocol.specs.Steps.{Answered}
use Rattle.sm_protocol.specs.Happens.{Happening}
use Rattle.sm_protocol.specs.Hand.{Hand, Game, given, hand_after, turn}
use Rattle.sm_protocol.specs.Log.{named}
use Rattle.sm_machine.specs.declared.hand.Hand as declared
use Rattle.sm_machine.specs.Machine.{MachineModel}
use Rattle.sm_machine.specs.State.{state_of}

-- the plan at a place, None if no plan is left
abbrev pub hand_plan : Option CheckedModel → Option PlanModel
hand_plan None = None
hand_plan (Some p) = Some p.plan

-- the hand of the protocol
abbrev pub hand_of : declared.Hand → Hand
hand_of h = record {
  tokens = h.tokens.items;
  permits = h.permits.items;
  tickets = h.tickets.items;
  plans = map hand_plan h.plans.items;
}

-- the machine's state, with the hand
abbrev pub game_of : MachineModel → declared.Hand → Game
game_of m h = record { state = state_of m; hand = hand_of h }

-- ---- the plans in a hand

-- each plan was checked for this configuration
abbrev pub AreFor : Setup → List (Option CheckedModel) → Type 0
AreFor setup plans = (place : ℕ) (p : CheckedModel) → slice_index_or plans place None ≡ Some p → p.setup ≡ setup

-- each plan that is left is the one that was there
abbrev pub AreLeft : List (Option CheckedModel) → List (Option CheckedModel) → Type 0
AreLeft old new = (place : ℕ) (p : CheckedModel) → slice_index_or new place None ≡ Some p
    → slice_index_or old place None ≡ Some p

-- the hands have the same tokens, permits, tickets and plans
pub record IsSameHand (old new : declared.Hand) : Type 0 where
  pub tokens : new.tokens.items ≡ old.tokens.items
  pub permits : new.permits.items ≡ old.permits.items
  pub tickets : new.tickets.items ≡ old.tickets.items
  pub plans : new.plans.items ≡ old.plans.items

-- ---- room

-- how many tokens the start of the plan at a place gives
abbrev pub token_count : Option CheckedModel → ℕ
token_count None = 0
token_count (Some p) = length p.plan.streams

-- there is room for the tokens of all plans, and for a permit and a ticket by each of n events
pub record HasHandRoom (h : declared.Hand) (n : ℕ) : Type 0 where
  pub tokens : length h.tokens.items + sum_by token_count h.plans.items ≤ vec_capacity h.tokens
  pub permits : length h.permits.items + n ≤ vec_capacity h.permits
  pub tickets : length h.tickets.items + n ≤ vec_capacity h.tickets

-- ---- turns

-- The event was played, with this answer. The configuration is as it was, and so is each plan that is left; and no more
-- room was used than an event may use.
pub record IsTurn (m : MachineModel) (h : declared.Hand) (e : Event) (answer : Played) (n : MachineModel) (k : declared.Hand) : Type 0 where
  pub turn : turn (game_of m h) e ≡ (Answered answer, game_of n k)
  pub setup : n.placement.setup ≡ m.placement.setup
  pub left : AreLeft h.plans.items k.plans.items
  pub room : (more : ℕ) → HasHandRoom h (suc more) → HasHandRoom k more

-- the event starts no plan
abbrev pub StartsNoPlan : Event → Type 0
StartsNoPlan (event.Begin place) = ⊥
StartsNoPlan _ = Unit {0}

-- whether the hand has the right that the event names; without it the event is Unknown
abbrev pub TellsRight : Bool → MachineModel → declared.Hand → Event → Type 0
TellsRight true m h e = (x : Happening) × (given (hand_of h) e ≡ Some x) × (named (state_of m) e ≡ Some x)
TellsRight false m h e = IsTurn m h e played.Unknown m h

-- the same tokens and plans, and room for all but a permit and a ticket more
pub record HasOneMore (h k : declared.Hand) : Type 0 where
  pub tokens : k.tokens ≡ h.tokens
  pub plans : k.plans ≡ h.plans
  pub permits : length k.permits.items ≤ length h.permits.items + 1
  pub tickets : length k.tickets.items ≤ length h.tickets.items + 1
  pub permit_room : vec_capacity h.permits ≤ vec_capacity k.permits
  pub ticket_room : vec_capacity h.tickets ≤ vec_capacity k.tickets

-- The hand has become this by an event that it gave a right for, with this answer.
pub record IsHandAfter (h : declared.Hand) (e : Event) (answer : Played) (k : declared.Hand) : Type 0 where
  pub hand : (x : Happening) → given (hand_of h) e ≡ Some x → hand_of k ≡ hand_after (hand_of h) e x answer
  pub more : HasOneMore h k

-- ---- places in a list

-- the place of the first element that passes, None if none does
abbrev pub IsFirstPlace : {T : Type 0} → (T → Bool) → List T → Option ℕ → Type 0
IsFirstPlace {T} test xs None = (k : ℕ) (d : T) → k < length xs → test (slice_index_or xs k d) ≡ false
IsFirstPlace {T} test xs (Some i) = (i < length xs) × ((d : T) → test (slice_index_or xs i d) ≡ true)
    × ((k : ℕ) (d : T) → k < i → test (slice_index_or xs k d) ≡ false)

-- the list with this element behind the others, if there is one
abbrev pub put_behind : {T : Type 0} → List T → Option T → List T
put_behind xs None = xs
put_behind xs (Some x) = xs ++ x ∷ []

-- ---- answers

-- the answers so far, and how many there is room for
pub record AnswersModel : Type 0 where
  pub told : List Played
  pub room : ℕ
