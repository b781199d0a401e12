-- The laws of the network whose handover numbers count from 0.
use Rattle.std.specs.Prelude.{◌≡◌, ◌≢◌, ◌≤◌, ◌<◌, ℕ, ◌+◌, ◌++◌, ◌⊎◌, true, false, Some, List, [], ◌∷◌, length, count_by, map}
pub use Rattle.laws_network.specs.Laws.{AllNetFit, AreOld, HasMovedOn, NetFits, shard_asked, is_for, is_of_instruction, order_served, round_trip}
pub use Rattle.laws_network.specs.Words.{AllByRecursion, AreDone, FitsConfig, IsOpening, IsReached, IsSafePlace, IsServing, Setup, ends_of, is_unfinished, led_to, sizes_of, stream_count, stream_id}
use Rattle.sm_protocol.specs.Steps.{Refused as refused_call}
use Rattle.laws_network.proofs.Counted.{Control, Made, Net, NetEvent, Order, Place, Played, Refusal, Refused, Replied, Served, Sizes, Step, StreamId, comes, net_run, opened, order_of, real}

-- A controller opens on servers as they are: the placement is settled, and orders of earlier controllers and their answers, which
-- still may come, are old. No request of then is still being passed on.
pub record IsNetOpening (setup : Setup) (n : Net) : Type 0 where
  pub place : Place
  pub room : ℕ
  pub opening : IsOpening setup place room
  pub w : n.w ≡ opened (sizes_of setup) place room
  pub cells : n.cells ≡ place.cells
  pub lasts : (s v : ℕ) → n.last s v ≤ n.base
  pub sent : AreOld n n.sent
  pub answers : AreOld n n.answers
  pub passes : n.passes ≡ []

-- events lead from an opening to this
pub record IsNetReached (setup : Setup) (n : Net) : Type 0 where
  pub start : Net
  pub opening : IsNetOpening setup start
  pub events : List NetEvent
  pub fit : AllNetFit (sizes_of setup) events
  pub state : n ≡ net_run events start

-- so it is wherever events lead
abbrev pub EachNet : (Setup → Net → Type 0) → Type 0
EachNet P = (setup : Setup) (n : Net) → IsNetReached setup n → P setup n

-- what the controller has recorded is a state that events of the protocol lead to: so all laws of the protocol hold of it
abbrev pub RecordIsReached : Setup → Net → Type 0
RecordIsReached setup n = IsReached setup n.w

-- no server refuses an order, and no event that the controller records is one that is refused
abbrev pub NoneIsRefused : Setup → Net → Type 0
NoneIsRefused setup n = (e : NetEvent) → NetFits n.w.sizes e → ((why : Refusal) → (comes n e).0 ≢ Refused why) × ((comes n e).0 ≢ Made refused_call)

-- no server that is recorded as down serves an order: so whatever comes to one that is restarted changes nothing there
abbrev pub ServesWhereUp : Setup → Net → Type 0
ServesWhereUp setup n = (e : NetEvent) (o : Order) → (comes n e).0 ≡ Served o → n.w.place.down o.call.server ≡ false

-- the placement as the servers have it is safe
abbrev pub RealIsSafe : Setup → Net → Type 0
RealIsSafe setup n = IsSafePlace n.w.sizes (real n)

-- the orders that servers serve along a list of events
abbrev pub orders_served : List NetEvent → Net → List Order
orders_served [] n = []
orders_served (e ∷ es) n = order_served (comes n e).0 ++ orders_served es (comes n e).1

-- Wherever events lead, and whatever comes then: a cell has the effect of a number once at most, and never where its last number is as
-- high already; and no instruction of any stream has its effect twice.
pub record HasEffectsOnce (setup : Setup) (n : Net) : Type 0 where
  pub numbers : (es : List NetEvent) (s v number : ℕ) → AllNetFit n.w.sizes es →
      (count_by (is_for s v number) (orders_served es n) ≤ 1) × (number ≤ n.last s v → count_by (is_for s v number) (orders_served es n) ≡ 0)
  pub instructions : (es : List NetEvent) (id : StreamId) (at : ℕ) → AllNetFit n.w.sizes es → count_by (is_of_instruction id at) (orders_served es n) ≤ 1

-- The order of a stream has had its effect on the cell, and its answer is outstanding: the cell is one call further than is recorded.
pub record IsFurther (n : Net) (s v : ℕ) : Type 0 where
  pub stream : StreamId
  pub order : Order
  pub current : order_of n.base n.w stream ≡ Some order
  pub shard : order.call.shard ≡ s
  pub server : order.call.server ≡ v
  pub last : n.last s v ≡ order.number
  pub led : led_to order.call.call (n.w.place.cells s v) ≡ Some (n.cells s v)

-- each cell is as it is recorded, or one call further
abbrev pub RealIsNear : Setup → Net → Type 0
RealIsNear setup n = (s v : ℕ) → (n.cells s v ≡ n.w.place.cells s v) ⊎ IsFurther n s v

-- where no stream's order has had its effect, the servers have what is recorded
abbrev pub RealIsRecorded : Setup → Net → Type 0
RealIsRecorded setup n =
    ((id : StreamId) (o : Order) → order_of n.base n.w id ≡ Some o → n.last o.call.shard o.call.server ≢ o.number) → (s v : ℕ) → n.cells s v ≡ n.w.place.cells s v

-- where all plans are done, the servers have the end of the plans in the order of their starts
abbrev pub RealIsAtEnds : Setup → Net → Type 0
RealIsAtEnds setup n = AreDone n.w → (s v : ℕ) → n.cells s v ≡ (ends_of n.w.sizes (map (λ x. x.plan) n.w.plans) n.w.opening).cells s v

-- another controller opens on what the servers have, with an empty log, and numbers above all of this one's
abbrev pub reopened : Net → Sizes → Place → ℕ → Net
reopened n c place room = record n { w = opened c place room; base = n.base + length n.w.log; passes = [] }

-- where all plans are done, another one can open on a placement with the servers' cells, while all orders and answers of this one still may come
abbrev pub CanReopen : Setup → Net → Type 0
CanReopen setup n = AreDone n.w → (place : Place) (room : ℕ) → IsOpening setup place room → ((s v : ℕ) → n.cells s v ≡ place.cells s v) →
    IsNetOpening setup (reopened n (sizes_of setup) place room)

-- The stream can go on: the controller can make its next step by itself, or a round trip of its order takes it past its call.
abbrev pub CanMoveOn : Net → StreamId → Type 0
CanMoveOn n id = HasMovedOn n.w id (net_run (Control (Step id) ∷ []) n).w ⊎ HasMovedOn n.w id (net_run (round_trip n id) n).w

-- of each plan that isn't done some stream can go on
abbrev pub SomeCanGoOn : Setup → Net → Type 0
SomeCanGoOn setup n = (k : ℕ) → k < length n.w.plans → is_unfinished n.w k ≡ true →
    (i : ℕ) × (i < stream_count n.w k) × ((n.w.progress k i).done ≡ false) × CanMoveOn n (stream_id k i)

-- who executes a request, which came directly or by however late a pass, is the one server that serves its shard then
abbrev pub ExecutesWhereServing : Setup → Net → Type 0
ExecutesWhereServing setup n = (e : NetEvent) (s v : ℕ) → shard_asked n e ≡ Some s → (comes n e).0 ≡ Replied (Played.Executed v) →
    IsServing (real n) s v × ((u : ℕ) → IsServing (real n) s u → u ≡ v)

-- where all plans are done, no request was passed on under a higher number than the log's length
abbrev pub PassesAreLow : Setup → Net → Type 0
PassesAreLow setup n = AreDone n.w → AllByRecursion (λ t. t.number ≤ length n.w.log) n.passes
