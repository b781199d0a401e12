-- The same with what the laws' proofs keep beside it: when each stream came to its position, and which streams' calls have had their
-- effects while their answers were not taken. Nothing that happens depends on these.
use Rattle.std.specs.Prelude.{ℕ, ◌+◌, ◌==◌, ◌&&◌, ◌++◌, ◌-◌, not, Bool, false, Option, Some, None, List, [], ◌∷◌, length, filter, is_some, slice_get, if◌then◌else◌}
pub use Rattle.laws_network.specs.Words.{Cell, Delivery, Happening, Instr, Logged, Outcome, Place, Played, Refusal, ServerCall, Sizes, State, StreamId, Ticket, Step, Lose, Refill, Arrive, PassOn, Approve, Done, Begin, delivery_of, happens, is_begun, is_running, is_step_of, is_token, load_of, next_call, next_instruction, no_start, opened, option_to_list, progress_of, put2, reply_of}
pub use Rattle.laws_network.specs.Net.{Order, instruction_call, call_now, since_in, since_of, NetEvent, Control, Send, Deliver, Answer, Ask, Pass, NetOutcome, Refused, Served, Made, Replied, Quiet, is_own, pass_by}

-- The states of the controller, the servers and the network between them.
pub record Net : Type 0 where
  -- what the controller has recorded
  pub w : State
  pub base : ℕ
  -- the log's length when each stream came to its position; for a fresh stream, at its plan's start
  pub since : StreamId → ℕ
  -- what the servers have: of each shard its cell, and the number of the last order that had an effect on it
  pub cells : ℕ → ℕ → Cell
  pub last : ℕ → ℕ → ℕ
  -- the streams whose current call has had its effect at its server, and whose answer the controller has not taken yet. This is
  -- here for the laws alone: what happens does not depend on it.
  pub had : List StreamId
  -- all orders and all answers that were ever sent: any of them may come at any time, and again
  pub sent : List Order
  pub answers : List Order
  -- all passes of requests from server to server that were ever made: any of them may come at any time, and again
  pub passes : List Ticket

-- the placement as the servers have it; the published map and who is down are the controller's to say
abbrev pub real : Net → Place
real n = record n.w.place { cells = n.cells; last = n.last }

-- ---- orders

-- the order for a call of a stream
abbrev pub order_for : Net → StreamId → Option ServerCall → Option Order
order_for n id None = None
order_for n id (Some call) = Some (record { stream = id; at = (progress_of n.w id).at; call = call; number = n.since id + 1 })

-- The order of a running stream that stands before a call. All of it is told by what the controller has recorded: so a controller
-- that has lost all but its log sends the same one again.
abbrev pub order_of : Net → StreamId → Option Order
order_of n id = if is_running n.w id then order_for n id (call_now n.w id) else None

-- ---- events

-- the stream was begun before, and stands where it stood
abbrev pub stands_still : State → State → StreamId → Bool
stands_still w new id = is_begun w id && ((progress_of new id).at == (progress_of w id).at)

-- the log's length when a stream came to its position, once the controller has gone on
abbrev pub since_after : Net → State → StreamId → ℕ
since_after n new id = if stands_still n.w new id then n.since id else n.base + length new.log

-- the controller makes an event
abbrev pub controlled : Net → Outcome × State → List StreamId → NetOutcome × Net
controlled n o had = (Made o.0, record n { w = o.1; since = since_after n o.1; had = had })

-- what becomes of an order at its server, by what that server alone has and its configuration
abbrev pub real_delivery : Net → Order → Delivery
real_delivery n o =
    let s = o.call.shard in
    let v = o.call.server in
    delivery_of (n.cells s v) (n.last s v) o.number (n.w.sizes.room v - load_of n.w.sizes n.cells v) (n.w.sizes.load s) o.call.call

-- what an order leads to by what becomes of it
abbrev pub after_delivery : Net → Order → Delivery → NetOutcome × Net
after_delivery n o Delivery.Old = (Quiet, n)
after_delivery n o Delivery.Again = (Quiet, record n { answers = n.answers ++ o ∷ [] })
after_delivery n o (Delivery.Refused why) = (Refused why, n)
after_delivery n o (Delivery.Served next) = (
  Served o,
  record n {
    cells = put2 n.cells o.call.shard o.call.server next;
    last = put2 n.last o.call.shard o.call.server o.number;
    had = o.stream ∷ n.had;
    answers = n.answers ++ o ∷ [];
  },
)

-- an order comes to its server
abbrev pub delivered : Net → Order → NetOutcome × Net
delivered n o = after_delivery n o (real_delivery n o)

-- an answer bears the number of the order that its stream has now
abbrev pub is_awaited : Net → Order → Bool
is_awaited n o = is_running n.w o.stream && (is_some (call_now n.w o.stream) && (o.number == n.since o.stream + 1))

-- the streams without this one
abbrev pub without : StreamId → List StreamId → List StreamId
without id ids = filter (λ a. not (is_token id a)) ids

-- an answer comes to the controller, which takes it if its stream waits for one of this number
abbrev pub answer_taken : Net → Order → NetOutcome × Net
answer_taken n o = if is_awaited n o then controlled n (happens n.w (Step o.stream)) (without o.stream n.had) else (Quiet, n)

-- what comes of an order or an answer at a place, if there is one
abbrev pub at_place : Net → (Net → Order → NetOutcome × Net) → Option Order → NetOutcome × Net
at_place n f None = (Quiet, n)
at_place n f (Some o) = f n o

-- A server's reply to a request, by what it has: the controller has no part in it, and it may be up although it is recorded as
-- down. One that is really down does not reply.
abbrev pub real_reply : Net → ℕ → ℕ → Option Ticket → Played
real_reply n s v sent = reply_of (record n.w { place = record (real n) { down = λ u. false }; log = [] }) s v sent

-- a request for a shard comes to a server, directly or by a pass
abbrev pub replied : Net → ℕ → ℕ → Option Ticket → NetOutcome × Net
replied n s v sent = (Replied (real_reply n s v sent), record n { passes = n.passes ++ option_to_list (pass_by s v (real_reply n s v sent)) })

-- a pass comes to its server, if there is one
abbrev pub passed : Net → Option Ticket → NetOutcome × Net
passed n None = (Quiet, n)
passed n (Some t) = replied n t.shard t.target (Some t)

-- what an event does, with its outcome
abbrev pub comes : Net → NetEvent → NetOutcome × Net
comes n (Control e) = if is_own n.w e then controlled n (happens n.w e) n.had else (Quiet, n)
comes n (Send id) = (Quiet, record n { sent = n.sent ++ option_to_list (order_of n id) })
comes n (Deliver k) = at_place n delivered (slice_get n.sent k)
comes n (Answer k) = at_place n answer_taken (slice_get n.answers k)
comes n (Ask s v) = replied n s v None
comes n (Pass k) = passed n (slice_get n.passes k)

-- after a list of events
abbrev pub net_run : List NetEvent → Net → Net
net_run [] n = n
net_run (e ∷ es) n = net_run es (comes n e).1
