-- The network with the published map at its owner. A publication, or an unlisting, is an order to the map's owner: it
-- has its effect there when it comes, and the controller records the stream's step when its answer comes. Like any
-- order it may come late, in any order, many times or never, and so may its answer.
use Rattle.std.specs.Prelude.{ℕ, suc, ◌+◌, ◌==◌, ◌&&◌, ◌++◌, Bool, false, Option, Some, None, List, [], ◌∷◌, is_some}
use Rattle.std.specs.Prelude.{slice_get, if◌then◌else◌}
use Rattle.sm_placement.specs.Sums.{put}
use Rattle.sm_plan_code.specs.declared.instruction.Instr.TheVariants as instr
use Rattle.laws_network.specs.Orders.{newer}
pub use Rattle.laws_network.specs.Words.{Entry, leads_of, to_list}
pub use Rattle.laws_network.specs.Net.{Control, Instr, Net, NetEvent, NetOutcome, Quiet, State, Step, StreamId, comes}
pub use Rattle.laws_network.specs.Net.{is_running, next_instruction, option_to_list}

-- An order to the map's owner: what is to be shown of a shard. The entry's version is its number.
pub record Publication : Type 0 where
  pub stream : StreamId
  pub shard : ℕ
  pub entry : Entry

-- The network, and the map's owner.
pub record World : Type 0 where
  pub net : Net
  -- what the map shows of each shard
  pub shown : ℕ → Entry
  -- all publications, and all their answers, that were ever sent: any of them may come at any time, and again
  pub published : List Publication
  pub stored : List Publication

-- ---- publications

-- the shard whose entry an instruction changes, and the server that is listed then, by what is recorded
abbrev pub publication_by : State → Option Instr → Option (ℕ × Option ℕ)
publication_by w (Some (instr.Publish s)) = Some (s, to_list (leads_of w.sizes w.place s))
publication_by w (Some (instr.Unlist s)) = Some (s, None)
publication_by w _ = None

-- the same of what a stream makes next
abbrev pub publication_now : State → StreamId → Option (ℕ × Option ℕ)
publication_now w id = publication_by w (next_instruction w id)

-- its version is the next one that is recorded, above the base
abbrev pub publication_for : ℕ → State → StreamId → Option (ℕ × Option ℕ) → Option Publication
publication_for base w id None = None
publication_for base w id (Some x) = Some (record { stream = id; shard = x.0; entry = record { server = x.1; version = base + suc (w.place.version x.0) } })

-- The publication of a running stream that stands before one. It follows from what is recorded.
abbrev pub publication_of : ℕ → State → StreamId → Option Publication
publication_of base w id = if is_running w id then publication_for base w id (publication_now w id) else None

-- ---- events

-- The events that may happen beside the map's owner, in any order and any number of times.
pub data WorldEvent : Type 0 where
  -- the controller makes an event by itself, or an order, an answer or a request comes
  Inner : (event : NetEvent) → WorldEvent
  -- the controller sends the publication of a stream
  Propose : (stream : StreamId) → WorldEvent
  -- of all publications that were sent, the one at this place comes to the map's owner
  Store : (place : ℕ) → WorldEvent
  -- of all answers of the map's owner, the one at this place comes to the controller
  Stored : (place : ℕ) → WorldEvent

-- no controller steps over a publication by itself
abbrev pub is_withheld : Net → NetEvent → Bool
is_withheld n (Control (Step id)) = is_some (publication_now n.w id)
is_withheld n _ = false

-- what comes of an event of the network
abbrev pub within : World → NetOutcome × Net → NetOutcome × World
within x o = (o.0, record x { net = o.1 })

-- A publication comes to the map's owner. It is taken if its version is above the one that is shown, and it is answered
-- in any case.
abbrev pub kept_by : World → Publication → World
kept_by x p = record x {
  shown = put x.shown p.shard (newer (x.shown p.shard) p.entry);
  stored = x.stored ++ p ∷ [];
}

-- the answer bears shard and version of the publication that its stream has now
abbrev pub is_answered_by : Publication → Option Publication → Bool
is_answered_by p None = false
is_answered_by p (Some q) = (p.shard == q.shard) && (p.entry.version == q.entry.version)

-- an answer comes to the controller, which records the step of its stream if it waits for it
abbrev pub acknowledged : World → Publication → NetOutcome × World
acknowledged x p =
    if is_answered_by p (publication_of x.net.base x.net.w p.stream)
    then within x (comes x.net (Control (Step p.stream)))
    else (Quiet, x)

-- what comes of a publication or its answer at a place, if there is one
abbrev pub by_place : World → (World → Publication → NetOutcome × World) → Option Publication → NetOutcome × World
by_place x f None = (Quiet, x)
by_place x f (Some p) = f x p

-- what an event does, with its outcome
abbrev pub world_comes : World → WorldEvent → NetOutcome × World
world_comes x (Inner e) = if is_withheld x.net e then (Quiet, x) else within x (comes x.net e)
world_comes x (Propose id) = (Quiet, record x { published = x.published ++ option_to_list (publication_of x.net.base x.net.w id) })
world_comes x (Store k) = by_place x (λ y p. (Quiet, kept_by y p)) (slice_get x.published k)
world_comes x (Stored k) = by_place x acknowledged (slice_get x.stored k)

-- after a list of events
abbrev pub world_run : List WorldEvent → World → World
world_run [] x = x
world_run (e ∷ es) x = world_run es (world_comes x e).1
