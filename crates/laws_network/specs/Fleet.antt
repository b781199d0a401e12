-- Controller, servers and the map's owner over a network, with all that may happen to them. A server keeps slots and a
-- base, and what it does depends on these and on the message alone (sm_agent). The controller is what its journal makes
-- it. Messages that were ever sent may come at any time, any number of times, or never.
use Rattle.std.specs.Prelude.{ℕ, suc, ◌++◌, Bool, Option, Some, None, List, [], ◌∷◌, length, drop, slice_get}
use Rattle.std.specs.Prelude.{if◌then◌else◌}
use Rattle.std.specs.Option.{option_to_list}
use Rattle.sm_placement.specs.Sums.{put, sum_below}
use Rattle.sm_agent.specs.declared.base.Base.{Base}
use Rattle.sm_agent.specs.declared.base.Reception.{Reception}
use Rattle.sm_agent.specs.declared.base.Reception.TheVariants as reception
use Rattle.sm_agent.specs.declared.slot.Slot.{Slot}
use Rattle.sm_agent.specs.declared.order.Stamp.{Stamp}
use Rattle.sm_agent.specs.declared.order.Order.{Order as ServerOrder}
use Rattle.sm_agent.specs.declared.order.Verdict.{Verdict}
use Rattle.sm_agent.specs.declared.order.Verdict.TheVariants as verdict
use Rattle.sm_agent.specs.declared.request.Relay.{Relay}
use Rattle.sm_agent.specs.declared.request.Request.{Request}
use Rattle.sm_agent.specs.declared.request.Request.TheVariants.{Direct, Passed}
use Rattle.sm_agent.specs.declared.request.Routing.{Routing}
use Rattle.sm_agent.specs.declared.request.Routing.TheVariants as routing
use Rattle.sm_agent.specs.Base.{forgotten, lacks_slots, restored}
use Rattle.sm_agent.specs.Order.{abandoned, begun_slot, committed, judged, placed, published as judged_by_owner, sealed}
use Rattle.sm_agent.specs.Order.{vacant}
use Rattle.sm_agent.specs.Request.{routed}
pub use Rattle.laws_network.specs.Words.{Entry}
pub use Rattle.laws_network.specs.Controller.{Answered, Cell, Controller, Ended, Happening, JournalEntry, Letter, Made}
pub use Rattle.laws_network.specs.Controller.{Notice, Opened, Order, Place, Publication, Restore, Restored, Stored}
pub use Rattle.laws_network.specs.Controller.{StreamId, letter_of, notice_of, replayed}

-- The state of a server.
pub record Server : Type 0 where
  pub base : Base
  pub slots : ℕ → Slot

-- A request that an old owner has passed on to the new one. It tells the new owner the cut, too.
pub record Handoff : Type 0 where
  pub shard : ℕ
  pub target : ℕ
  pub pass : Relay

-- Controller, servers, the map's owner and the network.
pub record Fleet : Type 0 where
  -- the controller as it opened, and the entries of its journal since then, the latest first
  pub start : Controller
  pub journal : List JournalEntry
  pub servers : ℕ → Server
  -- of each server that has lost its slots, the cells that it had; nothing that happens depends on it
  pub had : ℕ → ℕ → Cell
  pub owner : Base
  pub shown : ℕ → Entry
  -- all that was ever sent: orders and their answers, publications and theirs, requests that were passed on, and the
  -- servers that have asked for their slots
  pub sent : List Letter
  pub answers : List Order
  pub published : List Notice
  pub stored : List Publication
  pub passes : List Handoff
  pub asks : List ℕ

-- the controller that has the whole journal
abbrev pub controller : Fleet → Controller
controller f = replayed f.start f.journal

-- a controller that lacks a number of the last entries: it was deposed, or has crashed and reads the journal
abbrev pub earlier : Fleet → ℕ → Controller
earlier f lost = replayed f.start (drop lost f.journal)

-- the server has lost its slots
abbrev pub has_lost : Fleet → ℕ → Bool
has_lost f v = lacks_slots (f.servers v).base

-- what the servers have of each shard, or had before they lost it
abbrev pub held_cells : Fleet → ℕ → ℕ → Cell
held_cells f s v = if has_lost f v then f.had s v else ((f.servers v).slots s).cell

-- ---- events

-- The events that may happen, in any order and any number of times.
pub data FleetEvent : Type 0 where
  -- the controller makes a local event, hears that a restart has ended, or opens the next epoch
  Make : (event : Happening) → FleetEvent
  End : (server permit : ℕ) → FleetEvent
  Open : (room : ℕ) → FleetEvent
  -- an answer comes to the controller: to an order, or to a publication
  HearServer : (place : ℕ) → FleetEvent
  HearOwner : (place : ℕ) → FleetEvent
  -- it hears that a server asks for its slots
  HearAsk : (place : ℕ) → FleetEvent
  -- a controller that lacks this many entries sends the order of a stream, or its publication
  SendOrder : (lost : ℕ) (stream : StreamId) → FleetEvent
  SendPublication : (lost : ℕ) (stream : StreamId) → FleetEvent
  -- an order comes to its server
  Judge : (place : ℕ) → FleetEvent
  -- the server commits the work of an order, with the shard's writes applied up to a position
  Commit : (place at : ℕ) → FleetEvent
  -- the server gives up what is at work
  Abandon : (shard server : ℕ) → FleetEvent
  -- a publication comes to the map's owner
  Publish : (place : ℕ) → FleetEvent
  -- a request comes to a server that has applied the shard's writes up to a position, from a client or passed on
  Serve : (shard server applied : ℕ) → FleetEvent
  Receive : (place applied : ℕ) → FleetEvent
  -- the new owner hears the cut of a handover
  Seal : (place : ℕ) → FleetEvent
  -- a server loses all that it has, and asks for its slots under a new nonce
  Forget : (server : ℕ) → FleetEvent
  -- a restore comes to a server, be it meant for that one or not
  Recover : (place server : ℕ) → FleetEvent

-- The outcome of an event.
pub data FleetOutcome : Type 0 where
  Judged : (letter : Letter) (verdict : Verdict) → FleetOutcome
  Committed : (order : Order) → FleetOutcome
  Routed : (shard server : ℕ) (routing : Routing) → FleetOutcome
  Silent : FleetOutcome

-- what comes of a message, if there is one
abbrev pub by_message : {A : Type 0} → Fleet → (A → FleetOutcome × Fleet) → Option A → FleetOutcome × Fleet
by_message f g None = (Silent, f)
by_message f g (Some x) = g x

-- what comes of the message at a place of those that were sent
abbrev pub message_at : {A : Type 0} → Fleet → List A → ℕ → (A → FleetOutcome × Fleet) → FleetOutcome × Fleet
message_at f messages place g = by_message f g (slice_get messages place)

-- the journal has one entry more
abbrev pub written : Fleet → JournalEntry → Fleet
written f e = record f { journal = e ∷ f.journal }

-- a server's slot of a shard is another one
abbrev pub with_slot : Fleet → ℕ → ℕ → Slot → Fleet
with_slot f s v slot = record f { servers = put f.servers v (record (f.servers v) { slots = put (f.servers v).slots s slot }) }

-- ---- orders

-- an order as its server reads it
abbrev pub order_read : Letter → ServerOrder
order_read l = record {
  stamp = record { journal = l.journal; fence = l.fence; number = l.order.number };
  call = l.order.call.call;
  load = l.load;
  room = l.room;
}

-- the slot that an order is for
abbrev pub slot_for : Fleet → Letter → Slot
slot_for f l = (f.servers l.order.call.server).slots l.order.call.shard

-- the load of all that a server has
abbrev pub load_used : Fleet → ℕ → ℕ
load_used f v = sum_below f.start.w.sizes.shards (λ s. ((f.servers v).slots s).load)

-- what a server makes of an order
abbrev pub verdict_of : Fleet → Letter → Verdict
verdict_of f l =
    judged (f.servers l.order.call.server).base (slot_for f l) (load_used f l.order.call.server) (order_read l)

-- an order that is to begin is at work from then on, and one that has had its effect is answered again
abbrev pub after_verdict : Fleet → Letter → Verdict → Fleet
after_verdict f l verdict.Begin = with_slot f l.order.call.shard l.order.call.server (begun_slot (slot_for f l) (order_read l))
after_verdict f l verdict.Again = record f { answers = f.answers ++ l.order ∷ [] }
after_verdict f l _ = f

-- what its server makes of an order
abbrev pub after_letter : Fleet → Letter → FleetOutcome × Fleet
after_letter f l = (Judged l (verdict_of f l), after_verdict f l (verdict_of f l))

-- what becomes of work that is committed, or thrown away
abbrev pub after_work : Fleet → Letter → Option Slot → FleetOutcome × Fleet
after_work f l None = (Silent, f)
after_work f l (Some slot) =
    (Committed l.order, record (with_slot f l.order.call.shard l.order.call.server slot) { answers = f.answers ++ l.order ∷ [] })

-- the work of an order is committed
abbrev pub after_commit : Fleet → ℕ → Letter → FleetOutcome × Fleet
after_commit f at l = after_work f l (committed (f.servers l.order.call.server).base (slot_for f l) (order_read l) at)

-- ---- publications

-- a publication as the map's owner reads it
abbrev pub notice_stamp : Notice → Stamp
notice_stamp n = record { journal = n.journal; fence = n.fence; number = n.publication.entry.version }

-- the map's owner takes a publication, or answers it again
abbrev pub after_owner : Fleet → Publication → Verdict → Fleet
after_owner f p verdict.Begin = record f { shown = put f.shown p.shard p.entry; stored = f.stored ++ p ∷ [] }
after_owner f p verdict.Again = record f { stored = f.stored ++ p ∷ [] }
after_owner f p _ = f

-- what the map's owner makes of a publication
abbrev pub owner_verdict : Fleet → Notice → Verdict
owner_verdict f n = judged_by_owner f.owner (f.shown n.publication.shard).version (notice_stamp n)

-- what comes of a publication at the map's owner
abbrev pub after_notice : Fleet → Notice → FleetOutcome × Fleet
after_notice f n = (Silent, after_owner f n.publication (owner_verdict f n))

-- ---- requests

-- a request that is passed on leaves the server with its cut
abbrev pub handoff_by : ℕ → ℕ → Routing → Option Handoff
handoff_by s v (routing.PassOn to handover cut) = Some (record { shard = s; target = to; pass = record { from = v; handover = handover; cut = cut } })
handoff_by s v _ = None

-- where a request is executed
abbrev pub request_routing : Fleet → ℕ → ℕ → ℕ → Request → Routing
request_routing f s v applied request = routed (f.servers v).base ((f.servers v).slots s) applied request

-- what comes of a request at a server
abbrev pub after_request : Fleet → ℕ → ℕ → ℕ → Request → FleetOutcome × Fleet
after_request f s v applied request =
    let routing = request_routing f s v applied request in
    (Routed s v routing, record f { passes = f.passes ++ option_to_list (handoff_by s v routing) })

-- the new owner knows the cut
abbrev pub after_seal : Fleet → Handoff → FleetOutcome × Fleet
after_seal f h = (Silent, with_slot f h.shard h.target (sealed ((f.servers h.target).slots h.shard) h.pass.handover h.pass.cut))

-- ---- memory that is lost

-- a server loses its slots, and asks for them under a nonce that was never used
abbrev pub after_loss : Fleet → ℕ → Fleet
after_loss f v = record f {
  servers = put f.servers v (record { base = forgotten (suc (length f.asks)); slots = λ s. vacant });
  had = held_cells f;
  asks = f.asks ++ v ∷ [];
}

-- a server takes a restore, or ignores it
abbrev pub after_reception : Fleet → ℕ → Restore → Reception → Fleet
after_reception f v r (reception.Taken base) = record f {
  servers = put f.servers v (record { base = base; slots = λ s. placed vacant (r.cells s) (r.loads s) });
}
after_reception f v r _ = f

-- a restore comes to a server
abbrev pub after_restore : Fleet → ℕ → Restore → FleetOutcome × Fleet
after_restore f v r = (Silent, after_reception f v r (restored (f.servers v).base r.restoration))

-- ---- all events

-- what an event does, with its outcome
abbrev pub fleet_comes : Fleet → FleetEvent → FleetOutcome × Fleet
fleet_comes f (Make e) = (Silent, written f (Made e))
fleet_comes f (End v permit) = (Silent, written f (Ended v permit))
fleet_comes f (Open room) = (Silent, written f (Opened room))
fleet_comes f (HearServer k) = message_at f f.answers k (λ o. (Silent, written f (Answered o)))
fleet_comes f (HearOwner k) = message_at f f.stored k (λ p. (Silent, written f (Stored p)))
fleet_comes f (HearAsk k) = message_at f f.asks k (λ v. (Silent, written f (Restored v (suc k))))
fleet_comes f (SendOrder lost id) = (Silent, record f { sent = f.sent ++ option_to_list (letter_of (earlier f lost) id) })
fleet_comes f (SendPublication lost id) = (Silent, record f { published = f.published ++ option_to_list (notice_of (earlier f lost) id) })
fleet_comes f (Judge k) = message_at f f.sent k (after_letter f)
fleet_comes f (Commit k at) = message_at f f.sent k (after_commit f at)
fleet_comes f (Abandon s v) = (Silent, with_slot f s v (abandoned ((f.servers v).slots s)))
fleet_comes f (Publish k) = message_at f f.published k (after_notice f)
fleet_comes f (Serve s v applied) = after_request f s v applied Direct
fleet_comes f (Receive k applied) = message_at f f.passes k (λ h. after_request f h.shard h.target applied (Passed h.pass))
fleet_comes f (Seal k) = message_at f f.passes k (after_seal f)
fleet_comes f (Forget v) = (Silent, after_loss f v)
fleet_comes f (Recover k v) = message_at f (controller f).restores k (after_restore f v)

-- after a list of events
abbrev pub fleet_run : List FleetEvent → Fleet → Fleet
fleet_run [] f = f
fleet_run (e ∷ es) f = fleet_run es (fleet_comes f e).1
