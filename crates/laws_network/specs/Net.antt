-- The protocol over a network. The controller holds no lock while a call is under way: it sends orders, which may come
-- to their servers late, in any order, many times or never, and so may the answers. Its record is a state of the
-- protocol, in which a call has its effect only once its answer has come; what the servers have is beside it.
use Rattle.std.specs.Prelude.{ℕ, ◌+◌, ◌==◌, ◌&&◌, ◌++◌, ◌-◌, Bool, true, false, Option, Some, None, List, [], ◌∷◌}
use Rattle.std.specs.Prelude.{is_some, is_none, slice_get, if◌then◌else◌}
use Rattle.sm_server.specs.declared.call.Cell.TheVariants as cell
use Rattle.sm_server.specs.declared.call.Call.{Call}
use Rattle.sm_server.specs.declared.call.Call.TheVariants as call
pub use Rattle.laws_network.specs.Words.{Cell, Delivery, Happening, Instr, Logged, Outcome, Place, Played, Refusal}
pub use Rattle.laws_network.specs.Words.{ServerCall, Sizes, State, StreamId, Ticket, Step, Lose, Refill, Arrive, PassOn}
pub use Rattle.laws_network.specs.Words.{Approve, Done, Begin, delivery_of, happens, is_begun, is_running, is_step_of}
pub use Rattle.laws_network.specs.Words.{is_token, load_of, next_call, next_instruction, no_start, opened}
pub use Rattle.laws_network.specs.Words.{option_to_list, progress_of, put2, since_in, since_of}
use Rattle.sm_protocol.specs.Happens.{answer_by}

-- An order: the call of a stream's instruction, the cell that it is for, and its number.
pub record Order : Type 0 where
  pub stream : StreamId
  pub at : ℕ
  pub call : ServerCall
  pub number : ℕ

-- The controller, the servers and the network between them.
pub record Net : Type 0 where
  -- what the controller has recorded
  pub w : State
  -- The numbers of its orders are above this number, and so are those of handovers once they leave it. It is a constant
  -- of the controller, and no order had a number above it under an earlier one.
  pub base : ℕ
  -- what the servers have: of each shard its cell, and the number of the last order that had an effect on it
  pub cells : ℕ → ℕ → Cell
  pub last : ℕ → ℕ → ℕ
  -- all orders, answers, and passes of requests from server to server that were ever sent: any of them may come at any
  -- time, and again
  pub sent : List Order
  pub answers : List Order
  pub passes : List Ticket

-- the placement as the servers have it; the published map and who is down are the controller's to say
abbrev pub real : Net → Place
real n = record n.w.place { cells = n.cells; last = n.last }

-- ---- orders

-- the call of an instruction, if there is one and it is a call
abbrev pub instruction_call : (ℕ → ℕ) → Option Instr → Option ServerCall
instruction_call numbers None = None
instruction_call numbers (Some i) = next_call numbers i

-- the call that a stream makes next
abbrev pub call_now : State → StreamId → Option ServerCall
call_now w id = instruction_call w.numbers (next_instruction w id)

-- A call as it leaves the controller: the base is added to its handover number. So no request that was passed on under
-- an earlier controller fits a handover of this one.
abbrev pub call_above : ℕ → Call → Call
call_above base (call.PrepareAdd owner number) = call.PrepareAdd owner (base + number)
call_above base (call.PrepareDrop new_owner number) = call.PrepareDrop new_owner (base + number)
call_above base x = x

-- the cell that such calls lead to, if this one is recorded
abbrev pub cell_above : ℕ → Cell → Cell
cell_above base (cell.Prepared from number) = cell.Prepared from (base + number)
cell_above base (cell.Forwarding to number) = cell.Forwarding to (base + number)
cell_above base x = x

-- the order for a call of a stream
abbrev pub order_for : ℕ → State → StreamId → Option ServerCall → Option Order
order_for base w id None = None
order_for base w id (Some x) =
    Some (record { stream = id; at = (progress_of w id).at; call = record x { call = call_above base x.call }; number = base + since_of w id + 1 })

-- The order of a running stream that stands before a call. It follows from what is recorded: so a controller that has
-- lost all but its records sends the very same one again.
abbrev pub order_of : ℕ → State → StreamId → Option Order
order_of base w id = if is_running w id then order_for base w id (call_now w id) else None

-- ---- events

-- The events that may happen, in any order and any number of times.
pub data NetEvent : Type 0 where
  -- the controller makes an event by itself
  Control : (event : Happening) → NetEvent
  -- it sends the order of a stream
  Send : (stream : StreamId) → NetEvent
  -- of all orders that were sent, the one at this place comes to its server
  Deliver : (place : ℕ) → NetEvent
  -- of all answers that were sent, the one at this place comes to the controller
  Answer : (place : ℕ) → NetEvent
  -- a request for a shard comes to a server
  Ask : (shard server : ℕ) → NetEvent
  -- of all passes that were made, the one at this place comes to its server
  Pass : (place : ℕ) → NetEvent

-- The outcome of an event.
pub data NetOutcome : Type 0 where
  -- a server refuses an order
  Refused : (why : Refusal) → NetOutcome
  -- a server serves an order
  Served : (order : Order) → NetOutcome
  -- the controller makes an event, with this outcome
  Made : (outcome : Outcome) → NetOutcome
  -- a server replies to a request
  Replied : (answer : Played) → NetOutcome
  -- neither the servers nor what is recorded has changed
  Quiet : NetOutcome

-- the controller makes an event
abbrev pub controlled : Net → Outcome × State → NetOutcome × Net
controlled n o = (Made o.0, record n { w = o.1 })

-- what the controller makes by itself: starts, refills, restarts, and steps of streams that stand before no call
abbrev pub is_own : State → Happening → Bool
is_own w (Begin plan) = true
is_own w (Refill id more) = true
is_own w (Approve v) = true
is_own w (Done v) = true
is_own w (Step id) = is_none (call_now w id)
is_own w _ = false

-- what becomes of an order at its server, by what that server alone has and its configuration
abbrev pub real_delivery : Net → Order → Delivery
real_delivery n o =
    let s = o.call.shard in
    let v = o.call.server in
    delivery_of (n.cells s v) (n.last s v) o.number (n.w.sizes.room v - load_of n.w.sizes n.cells v) (n.w.sizes.load s) o.call.call

-- what an order leads to by what becomes of it
abbrev pub after_delivery : Net → Order → Delivery → NetOutcome × Net
after_delivery n o Delivery.Old = (Quiet, n)
after_delivery n o Delivery.Again = (Quiet, record n { answers = n.answers ++ o ∷ [] })
after_delivery n o (Delivery.Refused why) = (Refused why, n)
after_delivery n o (Delivery.Served next) = (
  Served o,
  record n {
    cells = put2 n.cells o.call.shard o.call.server next;
    last = put2 n.last o.call.shard o.call.server o.number;
    answers = n.answers ++ o ∷ [];
  },
)

-- An order comes to its server, be it recorded as up or as down; at one that is really down none comes.
abbrev pub delivered : Net → Order → NetOutcome × Net
delivered n o = after_delivery n o (real_delivery n o)

-- an answer bears the number of the order that its stream has now
abbrev pub is_awaited : ℕ → State → Order → Bool
is_awaited base w o = is_running w o.stream && (is_some (call_now w o.stream) && (o.number == base + since_of w o.stream + 1))

-- an answer comes to the controller, which takes it if its stream waits for one of this number
abbrev pub answer_taken : Net → Order → NetOutcome × Net
answer_taken n o = if is_awaited n.base n.w o then controlled n (happens n.w (Step o.stream)) else (Quiet, n)

-- what comes of an order or an answer at a place, if there is one
abbrev pub at_place : Net → (Net → Order → NetOutcome × Net) → Option Order → NetOutcome × Net
at_place n f None = (Quiet, n)
at_place n f (Some o) = f n o

-- ---- requests

-- the pass that a server makes by its reply
abbrev pub pass_by : ℕ → ℕ → Played → Option Ticket
pass_by s v (Played.Passed to number place) = Some (record { place = place; shard = s; sender = v; target = to; number = number })
pass_by s v _ = None

-- A server's reply to a request, by its own cell alone: the controller has no part in it, and it may be up although it
-- is recorded as down. One that is really down does not reply. A pass has no place in a log: 0 stands for it.
abbrev pub real_reply : Net → ℕ → ℕ → Option Ticket → Played
real_reply n s v sent = answer_by (n.cells s v) v sent 0

-- a request for a shard comes to a server, directly or by a pass
abbrev pub replied : Net → ℕ → ℕ → Option Ticket → NetOutcome × Net
replied n s v sent = (Replied (real_reply n s v sent), record n { passes = n.passes ++ option_to_list (pass_by s v (real_reply n s v sent)) })

-- a pass comes to its server, if there is one
abbrev pub passed : Net → Option Ticket → NetOutcome × Net
passed n None = (Quiet, n)
passed n (Some t) = replied n t.shard t.target (Some t)

-- what an event does, with its outcome
abbrev pub comes : Net → NetEvent → NetOutcome × Net
comes n (Control e) = if is_own n.w e then controlled n (happens n.w e) else (Quiet, n)
comes n (Send id) = (Quiet, record n { sent = n.sent ++ option_to_list (order_of n.base n.w id) })
comes n (Deliver k) = at_place n delivered (slice_get n.sent k)
comes n (Answer k) = at_place n answer_taken (slice_get n.answers k)
comes n (Ask s v) = replied n s v None
comes n (Pass k) = passed n (slice_get n.passes k)

-- after a list of events
abbrev pub net_run : List NetEvent → Net → Net
net_run [] n = n
net_run (e ∷ es) n = net_run es (comes n e).1
