-- Happenings: each event with its answer, and lists of events.
use Rattle.std.specs.Prelude.{ℕ, ◌+◌, ◌==◌, ◌&&◌, ◌||◌, ◌++◌, nat_lt, nat_le, not, Bool, true, false, Option, Some}
use Rattle.std.specs.Prelude.{None, List, [], ◌∷◌, length, if◌then◌else◌}
pub use Rattle.sm_protocol.specs.Words.{BeginFault, Cell, Denied, Event, Holding, MOST_ALLOWANCE, MOST_NUMBER}
pub use Rattle.sm_protocol.specs.Words.{MOST_PLANS, Passage, PlanModel, Played, RefillFault, StreamId, bit, denial}
pub use Rattle.sm_protocol.specs.Words.{first_from, first_holding, is_mentioned, list_any, places_of, set_down}
pub use Rattle.sm_protocol.specs.Words.{sum_below}
use Rattle.sm_protocol.specs.Ticket.{Ticket, is_open_ticket}
use Rattle.sm_protocol.specs.State.{State, allowance, stream_id, stream_count, stream_parts, progress_of, is_running}
use Rattle.sm_protocol.specs.State.{is_unfinished, set_progress, logged, recorded, pool, free_places}
use Rattle.sm_protocol.specs.Steps.{Outcome, Answered, unchanged, step}

-- A happening: an event, with what was handed in for it.
pub data Happening : Type 0 where
  Step : (stream : StreamId) → Happening
  Lose : (stream : StreamId) (after : Bool) → Happening
  Refill : (stream : StreamId) (more : ℕ) → Happening
  Arrive : (shard server : ℕ) → Happening
  PassOn : (ticket : Ticket) → Happening
  Approve : (server : ℕ) → Happening
  Done : (server : ℕ) → Happening
  Begin : (plan : PlanModel) → Happening

-- why a stream's allowance isn't raised by this much, None if it is
abbrev pub refill_fault : State → StreamId → ℕ → Option RefillFault
refill_fault w id more =
    if not (is_running w id) then Some RefillFault.Ended
    else if nat_lt MOST_ALLOWANCE (allowance w id + more) then Some RefillFault.TooMany
    else if nat_lt (free_places w) (more + 1) then Some RefillFault.LogFull
    else None

-- the refill, if nothing is against it
abbrev pub refilled : State → StreamId → ℕ → Option RefillFault → Outcome × State
refilled w id more (Some why) = unchanged w (Played.RefillRefused why)
refilled w id more None =
    let progress = set_progress w id (record (progress_of w id) { refills = (progress_of w id).refills + more }) in
    (Answered Played.Refilled, record w { progress = progress; log = logged w (Event.Refill id more) Played.Refilled })

-- what a server answers to a request by its cell (SM 2021); one that was passed on comes with its ticket, and a pass is
-- recorded here
abbrev pub answer_by : Cell → ℕ → Option Ticket → ℕ → Played
answer_by Cell.Primary v sent place = Played.Executed v
answer_by (Cell.Forwarding to number) v sent place = Played.Passed to number place
answer_by (Cell.Prepared from number) v (Some t) place = if (from == t.sender) && (number == t.number) then Played.Executed v else Played.NotOwner
answer_by _ v sent place = Played.NotOwner

-- what a server answers to a request: Unavailable if it is down, and otherwise by its cell
abbrev pub reply_of : State → ℕ → ℕ → Option Ticket → Played
reply_of w s v sent = if w.place.down v then Played.Unavailable else answer_by (w.place.cells s v) v sent (length w.log)

-- a request for a shard comes to a server
abbrev pub requested : State → ℕ → ℕ → Option Ticket → Event → Outcome × State
requested w s v sent event =
    if free_places w == 0 then unchanged w Played.LogFull
    else
    let answer = reply_of w s v sent in
    (Answered answer, recorded w event answer)

-- the stream is unfinished, and its code mentions the server
abbrev pub engages : State → ℕ → StreamId → Bool
engages w v id = not (progress_of w id).done && list_any (is_mentioned v) (stream_parts w id).code

-- the lowest stream that engages the server
abbrev pub engaged : State → ℕ → Option StreamId
engaged w v =
    first_from 0 (length w.plans) (λ k.
    first_from 0 (stream_count w k) (λ i. if engages w v (stream_id k i) then Some (stream_id k i) else None))

-- the restart is approved if nothing is against it, and takes the server down
abbrev pub approved : State → ℕ → Option Denied → Outcome × State
approved w v (Some why) = unchanged w (Played.Denied why)
approved w v None = (Answered Played.Approved, record w { place = set_down w.place v true; log = logged w (Event.Approve v) Played.Approved })

-- the end of a restart brings the server up, if it is down
abbrev pub restarted : State → ℕ → Outcome × State
restarted w v =
    if w.place.down v
    then (Answered Played.Up, record w { place = set_down w.place v false; log = logged w (Event.Done v) Played.Up })
    else unchanged w Played.Unknown

-- how many plans are unfinished
abbrev pub running_plans : State → ℕ
running_plans w = sum_below (length w.plans) (λ k. bit (is_unfinished w k))

-- sixteen plans are running, or the greatest number has been given
abbrev pub has_all_plans : State → Bool
has_all_plans w = nat_le MOST_PLANS (running_plans w) || nat_lt MOST_NUMBER (length w.plans)

-- the plan is begun behind the others
abbrev pub started : State → PlanModel → State
started w plan = record w { plans = w.plans ++ record { plan = plan; since = length w.log } ∷ [] }

-- a plan starts if nothing holds it up, the log has its places and another plan may run
abbrev pub begun : State → PlanModel → Option Holding → Outcome × State
begun w plan (Some why) = unchanged w (Played.NotBegun (BeginFault.Holding why))
begun w plan None =
    if nat_lt (free_places w) (places_of plan) then unchanged w (Played.NotBegun BeginFault.LogFull)
    else if has_all_plans w then unchanged w (Played.NotBegun BeginFault.TooManyPlans)
    else (Answered (Played.Begun (length w.plans)), started w plan)

-- what an event does to a state, with its outcome
abbrev pub happens : State → Happening → Outcome × State
happens w (Step id) = step w id Passage.Through
happens w (Lose id after) = step w id (if after then Passage.LostAfter else Passage.LostBefore)
happens w (Refill id more) = refilled w id more (refill_fault w id more)
happens w (Arrive s v) = requested w s v None (Event.Arrive s v)
happens w (PassOn t) =
    if is_open_ticket w.log t then requested w t.shard t.target (Some t) (Event.PassOn t.place) else unchanged w Played.Unknown
happens w (Approve v) = approved w v (denial w.sizes w.place (pool w) (engaged w v) (free_places w) v)
happens w (Done v) = restarted w v
happens w (Begin plan) = begun w plan (first_holding w.sizes w.place (pool w) plan)

-- the state after a list of events
abbrev pub run : List Happening → State → State
run [] w = w
run (e ∷ es) w = run es (happens w e).1

-- the outcome of each event of a list
abbrev pub outcomes : List Happening → State → List Outcome
outcomes [] w = []
outcomes (e ∷ es) w = (happens w e).0 ∷ outcomes es (happens w e).1
