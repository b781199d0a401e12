-- Requests as a machine answers them.
-- Public functions' contracts cite `played_by` and `tickets_in` alone. The others are internal: you need not read them
-- for the public contracts.
use Rattle.std.specs.Prelude.{◌≡◌, ◌<◌, ℕ, Option, List, [], ◌∷◌, false}
use Rattle.std.specs.Option.{option_to_list}
use Rattle.sm_protocol.specs.declared.event.Event.{Event}
use Rattle.sm_protocol.specs.declared.event.Played.{Played}
use Rattle.sm_protocol.specs.declared.event.Played.TheVariants as played
use Rattle.sm_protocol.specs.Ticket.{Ticket}
use Rattle.sm_protocol.specs.State.{State}
use Rattle.sm_protocol.specs.Steps.{Answered}
use Rattle.sm_protocol.specs.Happens.{Happening, requested, happens}
use Rattle.sm_protocol.specs.Laws.{FitsConfig}
use Rattle.sm_protocol.specs.Log.{is_step_of}
use Rattle.sm_reservation.specs.declared.stream_id.StreamId.{StreamId}
use Rattle.sm_machine.specs.State.{Whole}
use Rattle.sm_machine.specs.Working.{IsWorking}
use Rattle.sm_machine.specs.declared.answer.Answer.{Answer}
use Rattle.sm_machine.specs.declared.answer.Answer.TheVariants.{Executed, Passed, NotOwner, Unavailable, LogFull}
use Rattle.sm_machine.specs.declared.answer.Answer.TheVariants.{Unknown}

-- a request of a known shard comes to a known server, directly or with a ticket
pub record IsRequest (w : State) (s v : ℕ) (sent : Option Ticket) (event : Event) : Type 0 where
  pub shard : s < w.sizes.shards
  pub server : v < w.sizes.servers
  pub made : Happening
  pub fits : FitsConfig w.sizes made
  pub is : happens w made ≡ requested w s v sent event
  pub no_step : (id : StreamId) → is_step_of id event ≡ false

-- the answers that a request may have
abbrev pub IsReply : Played → Type 0
IsReply (played.Executed v) = Unit {0}
IsReply (played.Passed to number place) = Unit {0}
IsReply played.NotOwner = Unit {0}
IsReply played.Unavailable = Unit {0}
IsReply played.LogFull = Unit {0}
IsReply _ = ⊥

-- the answers that a request with a ticket may have
abbrev pub IsTicketReply : Played → Type 0
IsTicketReply played.Unknown = Unit {0}
IsTicketReply answer = IsReply answer

-- The request is answered so, and recorded unless the log is full.
pub record IsAsked (x : Whole) (s v : ℕ) (sent : Option Ticket) (event : Event) (answer : Played) (y : Whole) : Type 0 where
  pub outcome : requested x.state s v sent event ≡ (Answered answer, y.state)
  pub reply : IsReply answer
  pub setup : y.setup ≡ x.setup
  pub working : IsWorking y

-- ---- answers with their tickets

-- the answer, as the log and lists of events have it
abbrev pub played_by : Answer → Played
played_by (Executed server) = played.Executed server
played_by (Passed t) = played.Passed t.target t.number t.place
played_by NotOwner = played.NotOwner
played_by Unavailable = played.Unavailable
played_by (LogFull back) = played.LogFull
played_by (Unknown back) = played.Unknown

-- the ticket that comes with an answer
abbrev pub tickets_in : Answer → List Ticket
tickets_in (Executed server) = []
tickets_in (Passed t) = t ∷ []
tickets_in NotOwner = []
tickets_in Unavailable = []
tickets_in (LogFull back) = option_to_list back
tickets_in (Unknown back) = back ∷ []
