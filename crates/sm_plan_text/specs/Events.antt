-- The events of a document, which are played one after the other: those of the protocol, which name a plan by its place
-- among the plans of the document.
use Rattle.std.specs.Prelude.{ℕ, List, [], ◌∷◌, codes, Option, Some, None, option_and_then, if◌then◌else◌}
use Rattle.std.specs.Str.{bytes_eq}
use Rattle.serde_json.specs.Data.{Data}
use Rattle.sm_plan_text.specs.declared.fault.TextFault.{TextFault}
use Rattle.sm_plan_text.specs.declared.member.Member.TheVariants.{Events, Event as EventMember, Plan, Stream, Shard}
use Rattle.sm_plan_text.specs.declared.member.Member.TheVariants.{Server, Ticket, When, More}
use Rattle.sm_protocol.specs.declared.event.Event.{Event}
use Rattle.sm_protocol.specs.declared.event.Event.TheVariants as event
use Rattle.sm_plan_text.specs.Values.{text_found, number_in, number_or, id_in, after_in}
use Rattle.sm_plan_text.specs.Tables.{Row, one, maybe, whole, known, when, worded_faults}
use Rattle.sm_reservation.specs.declared.stream_id.StreamId.{StreamId}
use Rattle.sm_plan_code.specs.declared.limits.TheConstants.{MOST_NUMBER, MOST_CALLS}

-- the word that says which event it is
pub data EventWord : Type 0 where
  Step : EventWord
  Request : EventWord
  PassOn : EventWord
  Approve : EventWord
  Done : EventWord
  Lose : EventWord
  Refill : EventWord
  Begin : EventWord

-- the event that a word says
abbrev pub event_word : List ℕ → Option EventWord
event_word text =
    if bytes_eq text (codes "step") then Some Step
    else if bytes_eq text (codes "request") then Some Request
    else if bytes_eq text (codes "pass_on") then Some PassOn
    else if bytes_eq text (codes "approve") then Some Approve
    else if bytes_eq text (codes "done") then Some Done
    else if bytes_eq text (codes "lose") then Some Lose
    else if bytes_eq text (codes "refill") then Some Refill
    else if bytes_eq text (codes "begin") then Some Begin
    else None

-- the members that an event has by its word
abbrev pub event_table : List (List ℕ) → List (List ℕ) → EventWord → List Row
event_table shards servers Step = maybe Plan (whole MOST_NUMBER) ∷ one Stream (whole MOST_NUMBER) ∷ []
event_table shards servers Request = one Shard (known shards) ∷ one Server (known servers) ∷ []
event_table shards servers PassOn = one Ticket (whole MOST_NUMBER) ∷ []
event_table shards servers Approve = one Server (known servers) ∷ []
event_table shards servers Done = one Server (known servers) ∷ []
event_table shards servers Lose = maybe Plan (whole MOST_NUMBER) ∷ one Stream (whole MOST_NUMBER) ∷ one When when ∷ []
event_table shards servers Refill = maybe Plan (whole MOST_NUMBER) ∷ one Stream (whole MOST_NUMBER) ∷ one More (whole MOST_CALLS) ∷ []
event_table shards servers Begin = one Plan (whole MOST_NUMBER) ∷ []

-- the faults of an event, whatever stands before it in the list
abbrev pub event_faults : List (List ℕ) → List (List ℕ) → List Data → Data → List TextFault
event_faults shards servers before d = worded_faults Events EventMember event_word (event_table shards servers) d

-- the stream that is meant: by its plan's place in the document, the first one if none is named, and by its number in
-- the plan
abbrev pub stream_id_in : Data → StreamId
stream_id_in d = record { plan = number_or 0 Plan MOST_NUMBER d; stream = number_in Stream MOST_NUMBER d }

-- the event that an object says by its word
abbrev pub event_of : List (List ℕ) → List (List ℕ) → Data → EventWord → Event
event_of shards servers d Step = event.Step (stream_id_in d)
event_of shards servers d Request = event.Arrive (id_in shards Shard d) (id_in servers Server d)
event_of shards servers d PassOn = event.PassOn (number_in Ticket MOST_NUMBER d)
event_of shards servers d Approve = event.Approve (id_in servers Server d)
event_of shards servers d Done = event.Done (id_in servers Server d)
event_of shards servers d Lose = event.Lose (stream_id_in d) (after_in When d)
event_of shards servers d Refill = event.Refill (stream_id_in d) (number_in More MOST_CALLS d)
event_of shards servers d Begin = event.Begin (number_in Plan MOST_NUMBER d)

-- an event of the list by its word; if that says no event, what stands for it in a document that is refused
abbrev pub event_by : List (List ℕ) → List (List ℕ) → Data → Option EventWord → Event
event_by shards servers d None = event.Begin 0
event_by shards servers d (Some w) = event_of shards servers d w

-- an event of the list, as its object says it
abbrev pub event_in : List (List ℕ) → List (List ℕ) → Data → Event
event_in shards servers d = event_by shards servers d (option_and_then event_word (text_found EventMember d))
