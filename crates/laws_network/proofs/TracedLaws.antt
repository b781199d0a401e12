-- The laws of the traced network.
use Rattle.std.specs.Prelude.{◌≡◌, ◌≢◌, ◌≤◌, ◌<◌, ℕ, ◌++◌, ◌⊎◌, true, false, Option, Some, None, List, [], ◌∷◌, length, count_by, map, option_map, slice_get}
pub use Rattle.laws_network.specs.Laws.{AllNetFit, HasMovedOn, NetFits, is_for, is_of_instruction, order_served}
pub use Rattle.laws_network.specs.Words.{AllByRecursion, AreDone, FitsConfig, IsOpening, IsReached, IsSafePlace, IsServing, Setup, ends_of, is_unfinished, sizes_of, stream_count, stream_id}
use Rattle.sm_protocol.specs.Steps.{Refused as refused_call}
use Rattle.laws_network.proofs.Traced.{Answer, Ask, Control, Deliver, Made, Net, NetEvent, Order, Pass, Place, Played, Refusal, Refused, Replied, Send, Step, StreamId, comes, net_run, opened, real}

-- the same of an opening: no call has had its effect unanswered, and each stream will begin above the base
pub record IsNetOpening (setup : Setup) (n : Net) : Type 0 where
  pub place : Place
  pub room : ℕ
  pub opening : IsOpening setup place room
  pub w : n.w ≡ opened (sizes_of setup) place room
  pub since : n.since ≡ (λ id. n.base)
  pub had : n.had ≡ []
  pub cells : n.cells ≡ place.cells
  pub lasts : (s v : ℕ) → n.last s v ≤ n.base
  pub sent : AllByRecursion (λ o. o.number ≤ n.last o.call.shard o.call.server) n.sent
  pub answers : AllByRecursion (λ o. o.number ≤ n.last o.call.shard o.call.server) n.answers
  pub passes : n.passes ≡ []

-- events lead from an opening to this
pub record IsNetReached (setup : Setup) (n : Net) : Type 0 where
  pub start : Net
  pub opening : IsNetOpening setup start
  pub events : List NetEvent
  pub fit : AllNetFit (sizes_of setup) events
  pub state : n ≡ net_run events start

-- so it is wherever events lead
abbrev pub EachNet : (Setup → Net → Type 0) → Type 0
EachNet P = (setup : Setup) (n : Net) → IsNetReached setup n → P setup n

-- what the controller has recorded is a state that events of the protocol lead to: so all laws of the protocol hold of it
abbrev pub RecordIsReached : Setup → Net → Type 0
RecordIsReached setup n = IsReached setup n.w

-- no server refuses an order, and no event that the controller records is one that is refused
abbrev pub NoneIsRefused : Setup → Net → Type 0
NoneIsRefused setup n = (e : NetEvent) → NetFits n.w.sizes e → ((why : Refusal) → (comes n e).0 ≢ Refused why) × ((comes n e).0 ≢ Made refused_call)

-- the placement as the servers have it is safe
abbrev pub RealIsSafe : Setup → Net → Type 0
RealIsSafe setup n = IsSafePlace n.w.sizes (real n)

-- the orders that servers serve along a list of events
abbrev pub orders_served : List NetEvent → Net → List Order
orders_served [] n = []
orders_served (e ∷ es) n = order_served (comes n e).0 ++ orders_served es (comes n e).1

-- Along any list of events a cell has the effect of a number once at most, and never where its last number is as high already.
abbrev pub EffectsOnce : Type 0
EffectsOnce = (n : Net) (es : List NetEvent) (s v number : ℕ) →
    (count_by (is_for s v number) (orders_served es n) ≤ 1) × (number ≤ n.last s v → count_by (is_for s v number) (orders_served es n) ≡ 0)

-- no instruction of any stream has its effect twice
abbrev pub InstructionsOnce : Setup → Net → Type 0
InstructionsOnce setup n = (es : List NetEvent) (id : StreamId) (at : ℕ) → AllNetFit n.w.sizes es → count_by (is_of_instruction id at) (orders_served es n) ≤ 1

-- where no answer is outstanding, the servers have what is recorded
abbrev pub RealIsRecorded : Setup → Net → Type 0
RealIsRecorded setup n = n.had ≡ [] → (s v : ℕ) → n.cells s v ≡ n.w.place.cells s v

-- where all plans are done, the servers have the end of the plans in the order of their starts
abbrev pub RealIsAtEnds : Setup → Net → Type 0
RealIsAtEnds setup n = AreDone n.w → (s v : ℕ) → n.cells s v ≡ (ends_of n.w.sizes (map (λ x. x.plan) n.w.plans) n.w.opening).cells s v

-- a stream's order makes a round trip: it is sent, comes to its server, and the answer comes back
abbrev pub round_trip : Net → StreamId → List NetEvent
round_trip n id = Send id ∷ Deliver (length n.sent) ∷ Answer (length n.answers) ∷ []

-- The stream can go on: the controller can make its next step by itself, or a round trip of its order takes it past its call.
abbrev pub CanMoveOn : Net → StreamId → Type 0
CanMoveOn n id = HasMovedOn n.w id (net_run (Control (Step id) ∷ []) n).w ⊎ HasMovedOn n.w id (net_run (round_trip n id) n).w

-- of each plan that isn't done some stream can go on
abbrev pub SomeCanGoOn : Setup → Net → Type 0
SomeCanGoOn setup n = (k : ℕ) → k < length n.w.plans → is_unfinished n.w k ≡ true →
    (i : ℕ) × (i < stream_count n.w k) × ((n.w.progress k i).done ≡ false) × CanMoveOn n (stream_id k i)

-- the shard that a request is for
abbrev pub shard_asked : Net → NetEvent → Option ℕ
shard_asked n (Ask s v) = Some s
shard_asked n (Pass k) = option_map (λ t. t.shard) (slice_get n.passes k)
shard_asked n _ = None

-- who executes a request, which came directly or by however late a pass, is the one server that serves its shard then
abbrev pub ExecutesWhereServing : Setup → Net → Type 0
ExecutesWhereServing setup n = (e : NetEvent) (s v : ℕ) → shard_asked n e ≡ Some s → (comes n e).0 ≡ Replied (Played.Executed v) →
    IsServing (real n) s v × ((u : ℕ) → IsServing (real n) s u → u ≡ v)
