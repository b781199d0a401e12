-- Legal logs, and the ends of plans.
use Rattle.std.specs.Prelude.{◌≡◌, ℕ, zero, suc, ◌+◌, ◌==◌, ◌++◌, Bool, true, false, Option, Some, None, List, [], ◌∷◌}
use Rattle.std.specs.Prelude.{length, map, filter, count_by, replicate, if◌then◌else◌, ◌≤◌, ◌<◌, option_map, slice_get}
use Rattle.std.specs.Prelude.{slice_index_or}
pub use Rattle.sm_protocol.specs.Words.{Event, Logged, Played, StreamId, ends_of, option_to_list, put}
use Rattle.sm_protocol.specs.State.{State, Start, stream_parts, opened}
use Rattle.sm_protocol.specs.Ticket.{Ticket, passes, is_pass_on}
use Rattle.sm_protocol.specs.Steps.{Answered}
use Rattle.sm_protocol.specs.Happens.{Happening, Step, Lose, Refill, Arrive, PassOn, Approve, Done, Begin, happens}
use Rattle.sm_protocol.specs.Hand.{is_token}
use Rattle.sm_protocol.specs.Safe.{IsAccepted, unhalted}

-- who is down after a recorded event; a restart that is denied is not recorded
abbrev pub down_by : (ℕ → Bool) → Event → ℕ → Bool
down_by down (Event.Approve v) = put down v true
down_by down (Event.Done v) = put down v false
down_by down _ = down

-- who is down after the recorded events
abbrev pub down_after : (ℕ → Bool) → List Logged → ℕ → Bool
down_after down [] = down
down_after down (x ∷ xs) = down_after (down_by down x.event) xs

-- The placement is the end of the plans in the order of their starts, with servers down as the logged restarts leave
-- them.
pub record IsAtEnds (w : State) : Type 0 where
  pub cells : (s v : ℕ) → w.place.cells s v ≡ (ends_of w.sizes (map (λ x. x.plan) w.plans) w.opening).cells s v
  pub listed : (s : ℕ) → w.place.listed s ≡ (ends_of w.sizes (map (λ x. x.plan) w.plans) w.opening).listed s
  pub version : (s : ℕ) → w.place.version s ≡ (ends_of w.sizes (map (λ x. x.plan) w.plans) w.opening).version s
  pub limit : w.place.limit ≡ w.opening.limit
  pub down : (v : ℕ) → w.place.down v ≡ down_after w.opening.down w.log v

-- a recorded event is a step of the stream
abbrev pub is_step_of : StreamId → Event → Bool
is_step_of id (Event.Step token) = is_token id token
is_step_of id _ = false

-- the answers to the recorded steps of a stream
abbrev pub steps_in : StreamId → List Logged → List Played
steps_in id log = map (λ x. x.answer) (filter (λ x. is_step_of id x.event) log)

-- The log has one step of the stream for each of its instructions, and then its end; lost tries and refills are other
-- events. That the steps made the instructions in their order is told by the replay, if each makes the next one.
abbrev pub IsInLog : State → StreamId → Type 0
IsInLog w id = steps_in id w.log ≡ replicate (length (stream_parts w id).code) Played.Moved ++ Played.Done ∷ []

-- what happened by a recorded event; a request that was passed on has the ticket of its pass, and starts are not
-- recorded here
abbrev pub happening_of : List (Option Ticket) → Event → Option Happening
happening_of tickets (Event.Step id) = Some (Step id)
happening_of tickets (Event.Lose id after) = Some (Lose id after)
happening_of tickets (Event.Refill id more) = Some (Refill id more)
happening_of tickets (Event.Arrive s v) = Some (Arrive s v)
happening_of tickets (Event.PassOn place) = option_map PassOn (slice_index_or tickets place None)
happening_of tickets (Event.Approve v) = Some (Approve v)
happening_of tickets (Event.Done v) = Some (Done v)
happening_of tickets (Event.Begin place) = None

-- The rights that an event asks for under one who has all that are given away: the request of a pass is that at its
-- place of the log. An event does not tell which plan is to start.
abbrev pub named : State → Event → Option Happening
named w e = happening_of (passes w.log) e

-- of these plans, the first of which has this number, the starts that came when the log had this length, with their
-- answers
abbrev pub starts_at : ℕ → List Start → ℕ → List (Happening × Played)
starts_at number [] n = []
starts_at number (x ∷ xs) n = (if x.since == n then (Begin x.plan, Played.Begun number) ∷ [] else [])
    ++ starts_at (number + 1) xs n

-- what happened by what the log has at a place, with its answer
abbrev pub lines_at : List (Option Ticket) → Option Logged → List (Happening × Played)
lines_at tickets None = []
lines_at tickets (Some x) = option_to_list (option_map (λ e. (e, x.answer)) (happening_of tickets x.event))

-- what happened by the first n recorded events, and by the starts among and behind them
abbrev pub script_to : State → ℕ → List (Happening × Played)
script_to w zero = starts_at 0 w.plans 0
script_to w (suc n) = script_to w n ++ lines_at (passes w.log) (slice_get w.log n) ++ starts_at 0 w.plans (suc n)

-- all recorded events and starts, in their order
abbrev pub script : State → List (Happening × Played)
script w = script_to w (length w.log)

-- a plan that starts is accepted
abbrev pub IsAcceptedStart : State → Happening → Type 0
IsAcceptedStart w (Begin plan) = IsAccepted w plan
IsAcceptedStart w _ = Unit {0}

-- from one state these events get these answers, each start is accepted, and they lead to the other state
abbrev pub Replays : State → List (Happening × Played) → State → Type 0
Replays w [] final = w ≡ final
Replays w (x ∷ xs) final = ((happens w x.0).0 ≡ Answered x.1) × IsAcceptedStart w x.0
    × Replays (happens w x.0).1 xs final

-- the recorded request is for the shard, and came to the server: directly, or by the pass that it names
abbrev pub IsRequestTo : List (Option Ticket) → Event → ℕ → ℕ → Type 0
IsRequestTo tickets (Event.Arrive s v) shard server = (s ≡ shard) × (v ≡ server)
IsRequestTo tickets (Event.PassOn place) shard server = (t : Ticket) × (slice_index_or tickets place None ≡ Some t)
    × (t.shard ≡ shard) × (t.target ≡ server)
IsRequestTo tickets _ shard server = ⊥

-- The log has at the ticket's place the pass that the ticket tells of: a request for its shard came to its sender,
-- which passed it on to its target under its number.
pub record IsPass (log : List Logged) (t : Ticket) : Type 0 where
  pub line : Logged
  pub at : slice_get log t.place ≡ Some line
  pub request : IsRequestTo (passes log) line.event t.shard t.sender
  pub answer : line.answer ≡ Played.Passed t.target t.number t.place

-- From the opening, the recorded events and starts lead to the state, the halt flag aside, with the recorded answers.
-- No place of the log is passed on twice, and each that is passed on is that of an earlier pass.
pub record IsLegal (w : State) : Type 0 where
  pub replays : Replays (opened w.sizes w.opening w.room) (script w) (unhalted w)
  pub once : (place : ℕ) → count_by (λ x. is_pass_on place x.event) w.log ≤ 1
  pub earlier : (n : ℕ) (x : Logged) (place : ℕ) → slice_get w.log n ≡ Some x → x.event ≡ Event.PassOn place →
      (place < n) × ((t : Ticket) × (t.place ≡ place) × (slice_index_or (passes w.log) place None ≡ Some t)
      × IsPass w.log t)
