-- The hand: the tokens, permits, tickets and plans that events are made with.
use Rattle.std.specs.Prelude.{ℕ, ◌==◌, ◌&&◌, ◌++◌, Bool, true, false, Option, Some, None, List, [], ◌∷◌, length, map}
use Rattle.std.specs.Prelude.{find, option_map, slice_index_or, slice_set, if◌then◌else◌}
use Rattle.sm_protocol.specs.Words.{Event, PlanModel, Played, StreamId, filter_map, list_any, range_with_len}
use Rattle.sm_protocol.specs.Ticket.{Ticket}
use Rattle.sm_protocol.specs.State.{State, stream_id}
use Rattle.sm_protocol.specs.Steps.{Outcome, Refused, Answered}
use Rattle.sm_protocol.specs.Happens.{Happening, Step, Lose, Refill, Arrive, PassOn, Approve, Done, Begin, happens}

-- A hand, with which events are made: tokens of streams, permits to end restarts of servers, tickets of requests that
-- were passed on, and plans to start.
pub record Hand : Type 0 where
  pub tokens : List StreamId
  -- the servers whose restarts may be ended
  pub permits : List ℕ
  pub tickets : List Ticket
  -- by their places, None if no plan is left
  pub plans : List (Option PlanModel)

-- the token is the stream's
abbrev pub is_token : StreamId → StreamId → Bool
is_token id token = (token.plan == id.plan) && (token.stream == id.stream)

-- The event with what the hand has for it; None if its token, ticket, permit or plan isn't there. If several tickets
-- have one place, the first is used.
abbrev pub given : Hand → Event → Option Happening
given h (Event.Step id) = if list_any (is_token id) h.tokens then Some (Step id) else None
given h (Event.Lose id after) = if list_any (is_token id) h.tokens then Some (Lose id after) else None
given h (Event.Refill id more) = if list_any (is_token id) h.tokens then Some (Refill id more) else None
given h (Event.Arrive s v) = Some (Arrive s v)
given h (Event.PassOn place) = option_map PassOn (find (λ t. t.place == place) h.tickets)
given h (Event.Approve v) = Some (Approve v)
given h (Event.Done v) = if list_any (λ permit. permit == v) h.permits then Some (Done v) else None
given h (Event.Begin place) = option_map Begin (slice_index_or h.plans place None)

-- the list without its first element that passes
abbrev pub without_first : {T : Type 0} → (T → Bool) → List T → List T
without_first test [] = []
without_first test (x ∷ xs) = if test x then xs else x ∷ without_first test xs

-- the ticket of a pass of a request for the shard, which the server passed on
abbrev pub tickets_of : ℕ → ℕ → Played → List Ticket
tickets_of s v (Played.Passed to number place) = record { place = place; shard = s; sender = v; target = to; number = number } ∷ []
tickets_of s v _ = []

-- a ticket that meets this answer is spent
abbrev pub spends : Played → Bool
spends (Played.Executed v) = true
spends (Played.Passed to number place) = true
spends Played.NotOwner = true
spends Played.Unavailable = true
spends _ = false

-- The hand after an event that it gave this for, by its answer. A pass gives a ticket, and a ticket that met its answer
-- is spent; an approval gives a permit, and the end of the restart spends it; a start takes the plan out of its place,
-- and gives the tokens of its streams.
abbrev pub hand_after : Hand → Event → Happening → Played → Hand
hand_after h e (Arrive s v) answer = record h { tickets = h.tickets ++ tickets_of s v answer }
hand_after h e (PassOn t) answer =
    if spends answer
    then record h { tickets = without_first (λ x. x.place == t.place) h.tickets ++ tickets_of t.shard t.target answer }
    else h
hand_after h e (Approve v) Played.Approved = record h { permits = h.permits ++ v ∷ [] }
hand_after h e (Done v) Played.Up = record h { permits = without_first (λ permit. permit == v) h.permits }
hand_after h (Event.Begin place) (Begin plan) (Played.Begun number) = record h {
  plans = slice_set h.plans place None;
  tokens = h.tokens ++ map (stream_id number) (range_with_len 0 (length plan.streams));
}
hand_after h e x answer = h

-- A state, and a hand that events are made with.
pub record Game : Type 0 where
  pub state : State
  pub hand : Hand

-- the hand after an outcome: a refused call leaves it as it is
abbrev pub hand_by : Hand → Event → Happening → Outcome → Hand
hand_by h e x Refused = h
hand_by h e x (Answered answer) = hand_after h e x answer

-- an event for which the hand has nothing is Unknown and changes nothing
abbrev pub turn_by : Game → Event → Option Happening → Outcome × Game
turn_by g e None = (Answered Played.Unknown, g)
turn_by g e (Some x) = ((happens g.state x).0, record { state = (happens g.state x).1; hand = hand_by g.hand e x (happens g.state x).0 })

-- one event, with what the hand has for it
abbrev pub turn : Game → Event → Outcome × Game
turn g e = turn_by g e (given g.hand e)

-- the game after a list of events
abbrev pub play : List Event → Game → Game
play [] g = g
play (e ∷ es) g = play es (turn g e).1

-- the outcome of each event of a list
abbrev pub plays : List Event → Game → List Outcome
plays [] g = []
plays (e ∷ es) g = (turn g e).0 ∷ plays es (turn g e).1

-- what the hand gives for each event of a list, when its turn comes
abbrev pub all_given : List Event → Game → List (Option Happening)
all_given [] g = []
all_given (e ∷ es) g = given g.hand e ∷ all_given es (turn g e).1

-- those events of a list for which the hand has something, with what it gives
abbrev pub played_events : List Event → Game → List Happening
played_events es g = filter_map (λ x. x) (all_given es g)

-- these outcomes in turn if the hand has something, and Unknown if it has nothing
abbrev pub or_unknown : List (Option Happening) → List Outcome → List Outcome
or_unknown [] os = []
or_unknown (None ∷ xs) os = Answered Played.Unknown ∷ or_unknown xs os
or_unknown (Some x ∷ xs) [] = []
or_unknown (Some x ∷ xs) (o ∷ os) = o ∷ or_unknown xs os
