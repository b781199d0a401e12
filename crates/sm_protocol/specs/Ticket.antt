-- Passes of requests, as the log records them.
use Rattle.std.specs.Prelude.{ℕ, Bool, false, not, ◌&&◌, ◌==◌, ◌++◌, Option, Some, None, List, [], ◌∷◌, option_map}
use Rattle.std.specs.Prelude.{slice_index_or}
use Rattle.sm_protocol.specs.Words.{Event, Logged, Played, list_any, option_map_or}

-- A pass of a request: its place in the log, the shard, who passed the request on, to whom, and the number of their
-- handover.
pub record Ticket : Type 0 where
  pub place : ℕ
  pub shard : ℕ
  pub sender : ℕ
  pub target : ℕ
  pub number : ℕ

-- two tickets agree in all parts
abbrev pub same_ticket : Ticket → Ticket → Bool
same_ticket a b =
    (a.place == b.place) && ((a.shard == b.shard) && ((a.sender == b.sender) && ((a.target == b.target) && (a.number == b.number))))

-- the pass that an event made: its shard and its sender are those of the request, which came directly or by an earlier
-- pass
abbrev pub pass_of_event : List (Option Ticket) → ℕ → ℕ → ℕ → Event → Option Ticket
pass_of_event earlier to number place (Event.Arrive s v) = Some (record { place = place; shard = s; sender = v; target = to; number = number })
pass_of_event earlier to number place (Event.PassOn q) =
    option_map (λ t. record { place = place; shard = t.shard; sender = t.target; target = to; number = number }) (slice_index_or earlier q None)
pass_of_event earlier to number place _ = None

-- the pass that a recorded event made, if the events before it made these
abbrev pub pass_of : List (Option Ticket) → Played → Event → Option Ticket
pass_of earlier (Played.Passed to number place) e = pass_of_event earlier to number place e
pass_of earlier _ e = None

-- the passes at the places of a log, behind these earlier ones
abbrev pub passes_from : List (Option Ticket) → List Logged → List (Option Ticket)
passes_from earlier [] = earlier
passes_from earlier (x ∷ xs) = passes_from (earlier ++ pass_of earlier x.answer x.event ∷ []) xs

-- the pass that was recorded at each place of a log
abbrev pub passes : List Logged → List (Option Ticket)
passes log = passes_from [] log

-- the event passes on the request of this place
abbrev pub is_pass_on : ℕ → Event → Bool
is_pass_on q (Event.PassOn place) = place == q
is_pass_on q _ = false

-- a recorded event has passed on the request of this place
abbrev pub is_passed_on : List Logged → ℕ → Bool
is_passed_on log q = list_any (λ x. is_pass_on q x.event) log

-- the log has just this pass at the ticket's place, and its request was not passed on yet
abbrev pub is_open_ticket : List Logged → Ticket → Bool
is_open_ticket log t = option_map_or (λ pass. same_ticket pass t) (slice_index_or (passes log) t.place None) false && not (is_passed_on log t.place)
