-- The network where handover numbers leave the controller as they are recorded, counted from 0. What the servers have is this, with the
-- base added to each handover number.
use Rattle.std.specs.Prelude.{ℕ, ◌+◌, ◌++◌, Option, Some, None, List, [], ◌∷◌, slice_get, if◌then◌else◌}
pub use Rattle.laws_network.specs.Net.{Answer, Ask, Cell, Control, Deliver, Delivery, Happening, Instr, Logged, Made, Net, NetEvent, NetOutcome, Order, Outcome, Pass, Place, Played, Quiet, Refusal, Refused, Replied, Send, ServerCall, Served, Sizes, State, Step, StreamId, Ticket, after_delivery, answer_taken, at_place, instruction_call, call_now, controlled, delivered, happens, is_awaited, is_own, is_running, is_token, opened, option_to_list, pass_by, passed, progress_of, real, real_delivery, real_reply, replied, since_of}

-- the order for a call of a stream
abbrev pub order_for : ℕ → State → StreamId → Option ServerCall → Option Order
order_for base w id None = None
order_for base w id (Some call) = Some (record { stream = id; at = (progress_of w id).at; call = call; number = base + since_of w id + 1 })

-- The order of a running stream that stands before a call. What is recorded tells it: so a controller that has lost all but its
-- records sends the very same one again.
abbrev pub order_of : ℕ → State → StreamId → Option Order
order_of base w id = if is_running w id then order_for base w id (call_now w id) else None

-- what an event does, with its outcome
abbrev pub comes : Net → NetEvent → NetOutcome × Net
comes n (Control e) = if is_own n.w e then controlled n (happens n.w e) else (Quiet, n)
comes n (Send id) = (Quiet, record n { sent = n.sent ++ option_to_list (order_of n.base n.w id) })
comes n (Deliver k) = at_place n delivered (slice_get n.sent k)
comes n (Answer k) = at_place n answer_taken (slice_get n.answers k)
comes n (Ask s v) = replied n s v None
comes n (Pass k) = passed n (slice_get n.passes k)

-- before any event, when no order was ever sent
abbrev pub net_opened : Sizes → Place → ℕ → Net
net_opened c p room = record { w = opened c p room; base = 0; cells = p.cells; last = λ s v. 0; sent = []; answers = []; passes = [] }

-- after a list of events
abbrev pub net_run : List NetEvent → Net → Net
net_run [] n = n
net_run (e ∷ es) n = net_run es (comes n e).1
