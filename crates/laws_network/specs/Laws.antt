-- The laws of the network, behind their premises.
use Rattle.std.specs.Prelude.{◌≡◌, ◌≢◌, ◌≤◌, ◌<◌, ℕ, ◌+◌, ◌==◌, ◌&&◌, ◌++◌, ◌⊎◌, Bool, true, false, Option, Some, None}
use Rattle.std.specs.Prelude.{List, [], ◌∷◌, length, count_by, map, option_map, slice_get}
pub use Rattle.laws_network.specs.Words.{AllByRecursion, AreDone, FitsConfig, IsOpening, IsReached, IsSafePlace}
pub use Rattle.laws_network.specs.Words.{IsServing, Setup, ends_of, is_unfinished, led_to, sizes_of, stream_count}
pub use Rattle.laws_network.specs.Words.{stream_id}
use Rattle.sm_protocol.specs.Steps.{Refused as refused_call}
use Rattle.laws_network.specs.Net.{Answer, Ask, Control, Deliver, Made, Net, NetEvent, NetOutcome, Order, Pass, Place}
use Rattle.laws_network.specs.Net.{Played, Refusal, Refused, Replied, Send, Served, Sizes, State, Step, StreamId}
use Rattle.laws_network.specs.Net.{cell_above, comes, is_token, net_run, opened, order_of, progress_of, real}

-- what the controller makes by itself names known servers, and plans that were checked
abbrev pub NetFits : Sizes → NetEvent → Type 0
NetFits c (Control e) = FitsConfig c e
NetFits c _ = Unit {0}

-- each of these events is so
abbrev pub AllNetFit : Sizes → List NetEvent → Type 0
AllNetFit c es = AllByRecursion (NetFits c) es

-- these orders are old: each has no higher number than the last one of its cell
abbrev pub AreOld : Net → List Order → Type 0
AreOld n os = AllByRecursion (λ o. o.number ≤ n.last o.call.shard o.call.server) os

-- A controller opens on servers as they are: the placement is settled, and orders of earlier controllers and their
-- answers, which still may come, are old. Requests that were passed on then still may come too, under handover numbers
-- that are not above the base.
pub record IsNetOpening (setup : Setup) (n : Net) : Type 0 where
  pub place : Place
  pub room : ℕ
  pub opening : IsOpening setup place room
  pub w : n.w ≡ opened (sizes_of setup) place room
  pub cells : n.cells ≡ place.cells
  pub lasts : (s v : ℕ) → n.last s v ≤ n.base
  pub sent : AreOld n n.sent
  pub answers : AreOld n n.answers
  pub passes : AllByRecursion (λ t. t.number ≤ n.base) n.passes

-- events lead from an opening to this
pub record IsNetReached (setup : Setup) (n : Net) : Type 0 where
  pub start : Net
  pub opening : IsNetOpening setup start
  pub events : List NetEvent
  pub fit : AllNetFit (sizes_of setup) events
  pub state : n ≡ net_run events start

-- so it is wherever events lead
abbrev pub EachNet : (Setup → Net → Type 0) → Type 0
EachNet P = (setup : Setup) (n : Net) → IsNetReached setup n → P setup n

-- what the controller has recorded is a state that events of the protocol lead to: so all laws of the protocol hold of
-- it
abbrev pub RecordIsReached : Setup → Net → Type 0
RecordIsReached setup n = IsReached setup n.w

-- no server refuses an order, and no event that the controller records is one that is refused
abbrev pub NoneIsRefused : Setup → Net → Type 0
NoneIsRefused setup n = (e : NetEvent) → NetFits n.w.sizes e
    → ((why : Refusal) → (comes n e).0 ≢ Refused why) × ((comes n e).0 ≢ Made refused_call)

-- no server that is recorded as down serves an order: so whatever comes to one that is restarted changes nothing there
abbrev pub ServesWhereUp : Setup → Net → Type 0
ServesWhereUp setup n = (e : NetEvent) (o : Order) → (comes n e).0 ≡ Served o → n.w.place.down o.call.server ≡ false

-- the placement as the servers have it is safe
abbrev pub RealIsSafe : Setup → Net → Type 0
RealIsSafe setup n = IsSafePlace n.w.sizes (real n)

-- the orders that are served along a list of events
abbrev pub order_served : NetOutcome → List Order
order_served (Served o) = o ∷ []
order_served _ = []

-- the orders that servers serve along a list of events
abbrev pub orders_served : List NetEvent → Net → List Order
orders_served [] n = []
orders_served (e ∷ es) n = order_served (comes n e).0 ++ orders_served es (comes n e).1

-- the order is for this cell, and has this number
abbrev pub is_for : ℕ → ℕ → ℕ → Order → Bool
is_for s v number o = (o.call.shard == s) && ((o.call.server == v) && (o.number == number))

-- the order is for this instruction
abbrev pub is_of_instruction : StreamId → ℕ → Order → Bool
is_of_instruction id at o = is_token id o.stream && (o.at == at)

-- Wherever events lead, and whatever comes then: a cell has the effect of a number once at most, and never if its last
-- number is as high already. No instruction of any stream has its effect twice.
pub record HasEffectsOnce (setup : Setup) (n : Net) : Type 0 where
  pub numbers : (es : List NetEvent) (s v number : ℕ) → AllNetFit n.w.sizes es →
      (count_by (is_for s v number) (orders_served es n) ≤ 1)
      × (number ≤ n.last s v → count_by (is_for s v number) (orders_served es n) ≡ 0)
  pub instructions : (es : List NetEvent) (id : StreamId) (at : ℕ) → AllNetFit n.w.sizes es
      → count_by (is_of_instruction id at) (orders_served es n) ≤ 1

-- The order of a stream has had its effect on the cell, and its answer is outstanding: the cell is one call further
-- than is recorded.
pub record IsFurther (n : Net) (s v : ℕ) : Type 0 where
  pub stream : StreamId
  pub order : Order
  pub current : order_of n.base n.w stream ≡ Some order
  pub shard : order.call.shard ≡ s
  pub server : order.call.server ≡ v
  pub last : n.last s v ≡ order.number
  pub led : led_to order.call.call (cell_above n.base (n.w.place.cells s v)) ≡ Some (n.cells s v)

-- each cell is as it is recorded, with the base added to its handover number, or one call further
abbrev pub RealIsNear : Setup → Net → Type 0
RealIsNear setup n = (s v : ℕ) → (n.cells s v ≡ cell_above n.base (n.w.place.cells s v)) ⊎ IsFurther n s v

-- if no stream's order has had its effect, the servers have what is recorded, with the base added to handover numbers
abbrev pub RealIsRecorded : Setup → Net → Type 0
RealIsRecorded setup n =
    ((id : StreamId) (o : Order) → order_of n.base n.w id ≡ Some o → n.last o.call.shard o.call.server ≢ o.number)
    → (s v : ℕ) → n.cells s v ≡ cell_above n.base (n.w.place.cells s v)

-- once all plans are done, the servers have the end of the plans in the order of their starts
abbrev pub RealIsAtEnds : Setup → Net → Type 0
RealIsAtEnds setup n = AreDone n.w → (s v : ℕ)
    → n.cells s v ≡ cell_above n.base ((ends_of n.w.sizes (map (λ x. x.plan) n.w.plans) n.w.opening).cells s v)

-- another controller opens on what the servers have, with an empty log, and numbers above all of this one's
abbrev pub reopened : Net → Sizes → Place → ℕ → Net
reopened n c place room = record n { w = opened c place room; base = n.base + length n.w.log }

-- once all plans are done, another one can open on a placement with the servers' cells, while all orders, answers and
-- passes of this one still may come
abbrev pub CanReopen : Setup → Net → Type 0
CanReopen setup n = AreDone n.w → (place : Place) (room : ℕ) → IsOpening setup place room
    → ((s v : ℕ) → n.cells s v ≡ place.cells s v) →
    IsNetOpening setup (reopened n (sizes_of setup) place room)

-- a stream's order makes a round trip: it is sent, comes to its server, and the answer comes back
abbrev pub round_trip : Net → StreamId → List NetEvent
round_trip n id = Send id ∷ Deliver (length n.sent) ∷ Answer (length n.answers) ∷ []

-- the stream has moved on: it stands behind its instruction, or has finished
abbrev pub HasMovedOn : State → StreamId → State → Type 0
HasMovedOn w id new = ((progress_of new id).at ≡ (progress_of w id).at + 1) ⊎ ((progress_of new id).done ≡ true)

-- The stream can go on: the controller can make its next step by itself, or a round trip of its order takes it past its
-- call.
abbrev pub CanMoveOn : Net → StreamId → Type 0
CanMoveOn n id = HasMovedOn n.w id (net_run (Control (Step id) ∷ []) n).w
    ⊎ HasMovedOn n.w id (net_run (round_trip n id) n).w

-- of each plan that isn't done some stream can go on
abbrev pub SomeCanGoOn : Setup → Net → Type 0
SomeCanGoOn setup n = (k : ℕ) → k < length n.w.plans → is_unfinished n.w k ≡ true →
    (i : ℕ) × (i < stream_count n.w k) × ((n.w.progress k i).done ≡ false) × CanMoveOn n (stream_id k i)

-- the event is a step of a stream, or one of an order or an answer
abbrev pub IsAdvance : NetEvent → Type 0
IsAdvance (Control (Step id)) = Unit {0}
IsAdvance (Send id) = Unit {0}
IsAdvance (Deliver k) = Unit {0}
IsAdvance (Answer k) = Unit {0}
IsAdvance _ = ⊥

-- wherever events lead, such events can lead on until all plans are done
abbrev pub CanFinish : Setup → Net → Type 0
CanFinish setup n = (es : List NetEvent) × AllByRecursion IsAdvance es × AreDone (net_run es n).w

-- the shard that a request is for
abbrev pub shard_asked : Net → NetEvent → Option ℕ
shard_asked n (Ask s v) = Some s
shard_asked n (Pass k) = option_map (λ t. t.shard) (slice_get n.passes k)
shard_asked n _ = None

-- who executes a request, which came directly or by however late a pass, is the one server that serves its shard then
abbrev pub ExecutesWhereServing : Setup → Net → Type 0
ExecutesWhereServing setup n = (e : NetEvent) (s v : ℕ) → shard_asked n e ≡ Some s
    → (comes n e).0 ≡ Replied (Played.Executed v) →
    IsServing (real n) s v × ((u : ℕ) → IsServing (real n) s u → u ≡ v)
