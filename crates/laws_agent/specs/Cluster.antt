-- Servers and the map's owner as agents while a reopening is under way: with bases, slots and what is at work. Orders,
-- fences, settles and restores that were sent come in any order, late, again or never, and the agent's definitions say
-- what each one does.
use Rattle.std.specs.Prelude.{ℕ, suc, ◌++◌, ◌||◌, Bool, true, false, not, Option, Some, None, List, [], ◌∷◌, map}
use Rattle.std.specs.Prelude.{slice_get, if◌then◌else◌}
use Rattle.sm_placement.specs.Sums.{put}
use Rattle.sm_agent.specs.declared.base.Base.{Base}
use Rattle.sm_agent.specs.declared.base.Reopening.{Reopening as AgentReopening}
use Rattle.sm_agent.specs.declared.base.Reception.{Reception}
use Rattle.sm_agent.specs.declared.base.Reception.TheVariants.{Taken, Again, Ignored}
use Rattle.sm_agent.specs.declared.slot.Slot.{Slot}
use Rattle.sm_agent.specs.Assignment.{kept_slot}
use Rattle.sm_agent.specs.Base.{fenced, forgotten, heeded, lacks_slots, restored, settled}
use Rattle.sm_agent.specs.Order.{abandoned, is_filled, placed, vacant}
pub use Rattle.laws_network.specs.Words.{Cell, Sizes, sizes_of}
pub use Rattle.laws_network.specs.Fleet.{Abandon, Commit, Fleet, FleetEvent, FleetOutcome, Judge, Publish, Receive}
pub use Rattle.laws_network.specs.Fleet.{Seal}
pub use Rattle.laws_network.specs.Fleet.{Serve, Server as AgentServer, Silent, fleet_comes}
pub use Rattle.laws_network.specs.Reopening.{Entries, Entry, Fence, Fenced, Inventory, MapOwner, Message, Party}
pub use Rattle.laws_network.specs.Reopening.{Reopening, Restore, Server, Settle, Settled, Settlement, Slots, Told, Took}
pub use Rattle.laws_network.specs.Reopening.{Unknown, entered, sends}

-- A message as it is sent: with its sender's journal, and the number of the last reopening there.
pub record Envelope : Type 0 where
  pub journal : ℕ
  pub fence : ℕ
  pub message : Message

-- Servers, the map's owner and the network while a reopening is under way.
pub record Cluster : Type 0 where
  -- Servers, the map's owner, and the orders, publications and requests that were sent. Its controller has ended all
  -- plans: what a deposed one sends only now counts as sent before, and comes late.
  pub fleet : Fleet
  -- no nonce at or above this was ever made
  pub nonces : ℕ
  -- all fences, settles, restores and answers that were ever sent
  pub messages : List Envelope
  pub reopening : Reopening

-- ---- events

-- The events that may happen, in any order and any number of times.
pub data ClusterEvent : Type 0 where
  -- an order, a publication, a request or a cut comes, or a server commits work or gives it up
  Handles : (event : FleetEvent) → ClusterEvent
  -- The message at this place of all that were sent comes. A server that tells its slots has applied the writes of
  -- each shard up to a position.
  Receives : (place : ℕ) (applied : ℕ → ℕ) → ClusterEvent
  -- a server hears that this is the last reopening of a journal
  Learns : (server : ℕ) (last : AgentReopening) → ClusterEvent
  -- a server loses all that it has
  Loses : (server : ℕ) → ClusterEvent
  -- the controller records an entry of its journal
  Notes : (journal fence : ℕ) (entry : Entry) → ClusterEvent

-- what happens to the servers and the map's owner alone
abbrev pub needs_no_controller : FleetEvent → Bool
needs_no_controller (Judge place) = true
needs_no_controller (Commit place at) = true
needs_no_controller (Abandon shard server) = true
needs_no_controller (Publish place) = true
needs_no_controller (Serve shard server applied) = true
needs_no_controller (Receive place applied) = true
needs_no_controller (Seal place) = true
needs_no_controller _ = false

-- the base that a party keeps
abbrev pub base_kept : Fleet → Party → Base
base_kept f (Server v) = (f.servers v).base
base_kept f MapOwner = f.owner

-- a server is another one
abbrev pub with_server : Fleet → ℕ → AgentServer → Fleet
with_server f v server = record f { servers = put f.servers v server }

-- one message more was sent
abbrev pub message_posted : Cluster → ℕ → ℕ → Message → Cluster
message_posted c journal fence m =
    record c { messages = c.messages ++ record { journal = journal; fence = fence; message = m } ∷ [] }

-- the controller records an entry, and sends what follows from it
abbrev pub entry_noted : Cluster → ℕ → ℕ → Entry → Cluster
entry_noted c journal fence e = let r = entered e c.reopening in record c {
  reopening = r;
  messages = c.messages ++ map (λ m. record { journal = journal; fence = fence; message = m }) (sends e r);
}

-- ---- fences

-- a party that has taken a fence has nothing at work
abbrev pub with_fence : Fleet → Party → Base → Fleet
with_fence f (Server v) base = with_server f v (record { base = base; slots = λ s. abandoned ((f.servers v).slots s) })
with_fence f MapOwner base = record f { owner = base }

-- what a server tells by its nonce, its slots and the writes that it has applied
abbrev pub slots_told : Option ℕ → (ℕ → Slot) → (ℕ → ℕ) → Inventory
slots_told None slots applied = Slots (λ s. (slots s).cell) (λ s. is_filled (slots s).cut (applied s))
slots_told (Some nonce) slots applied = Unknown nonce

-- what a party tells
abbrev pub inventory_told : Fleet → Party → (ℕ → ℕ) → Inventory
inventory_told f (Server v) applied = slots_told (f.servers v).base.nonce (f.servers v).slots applied
inventory_told f MapOwner applied = Entries

-- the answer to a fence; its party has drawn a nonce, whether it is Unknown or not
abbrev pub fence_answered : Cluster → Envelope → Party → ℕ → (ℕ → ℕ) → Cluster
fence_answered c e p number applied =
    message_posted (record c { nonces = suc c.nonces }) e.journal e.fence
    (Fenced p number (inventory_told c.fleet p applied))

-- what becomes of a fence
abbrev pub after_fencing : Cluster → Envelope → Party → ℕ → (ℕ → ℕ) → Reception → Cluster
after_fencing c e p number applied (Taken base) =
    fence_answered (record c { fleet = with_fence c.fleet p base }) e p number applied
after_fencing c e p number applied Again = fence_answered c e p number applied
after_fencing c e p number applied Ignored = c

-- ---- settles and restores

-- a server that has taken these cells, with the loads that came with them
abbrev pub assigned_server : AgentServer → Base → Sizes → (ℕ → Cell) → AgentServer
assigned_server old base sizes cells =
    record { base = base; slots = λ s. placed (kept_slot old.base (old.slots s)) (cells s) (sizes.load s) }

-- a party that has taken its part of a settlement
abbrev pub with_part : Fleet → Party → Base → Settlement → Fleet
with_part f (Server v) base s =
    with_server f v (assigned_server (f.servers v) base (sizes_of s.setup) (λ k. s.place.cells k v))
with_part f MapOwner base s = record f { owner = base; shown = λ k. record { server = s.place.listed k; version = base.number } }

-- the cluster after a settle: a party that takes it, or took it before, answers it
abbrev pub after_settling : Cluster → Envelope → Party → ℕ → Settlement → Reception → Cluster
after_settling c e p number s (Taken base) = message_posted (record c { fleet = with_part c.fleet p base s }) e.journal e.fence (Settled p number)
after_settling c e p number s Again = message_posted c e.journal e.fence (Settled p number)
after_settling c e p number s Ignored = c

-- what becomes of a restore
abbrev pub after_restoring : Cluster → ℕ → Sizes → (ℕ → Cell) → Reception → Cluster
after_restoring c v sizes cells (Taken base) = record c { fleet = with_server c.fleet v (assigned_server (c.fleet.servers v) base sizes cells) }
after_restoring c v sizes cells _ = c

-- ---- all messages

-- a message comes to its party, or an answer to the controller
abbrev pub received_by : Cluster → (ℕ → ℕ) → Envelope → Message → Cluster
received_by c applied e (Fence p number) =
    after_fencing c e p number applied (fenced (base_kept c.fleet p) (record { journal = e.journal; number = number }) c.nonces)
received_by c applied e (Settle p number nonce s) =
    after_settling c e p number s
    (settled (base_kept c.fleet p) (record { reopening = record { journal = e.journal; number = number }; nonce = nonce }))
received_by c applied e (Restore v nonce number sizes cells) =
    after_restoring c v sizes cells
    (restored (c.fleet.servers v).base (record { journal = e.journal; fence = e.fence; number = number; nonce = nonce }))
received_by c applied e (Fenced p number inventory) = entry_noted c e.journal e.fence (Told p number inventory)
received_by c applied e (Settled p number) = entry_noted c e.journal e.fence (Took p number)

-- if there is one
abbrev pub received_at : Cluster → (ℕ → ℕ) → Option Envelope → Cluster
received_at c applied None = c
received_at c applied (Some e) = received_by c applied e e.message

-- a server has this base now, and a new nonce is made
abbrev pub with_base : Cluster → ℕ → Base → Cluster
with_base c v base = record c {
  fleet = with_server c.fleet v (record (c.fleet.servers v) { base = base });
  nonces = suc c.nonces;
}

-- a server that a reopening has overtaken turns Unknown, and asks under a new nonce; it reads its slots no more
abbrev pub after_hearing : Cluster → ℕ → Base → Base → Cluster
after_hearing c v old base = if lacks_slots old || not (lacks_slots base) then c else with_base c v base

-- a server has nothing any more, and asks under a new nonce
abbrev pub after_losing : Cluster → ℕ → Cluster
after_losing c v = record c {
  fleet = with_server c.fleet v (record { base = forgotten c.nonces; slots = λ s. vacant });
  nonces = suc c.nonces;
}

-- what comes of an event at the servers
abbrev pub in_fleet : Cluster → FleetOutcome × Fleet → FleetOutcome × Cluster
in_fleet c o = (o.0, record c { fleet = o.1 })

-- what an event does, with its outcome
abbrev pub cluster_comes : Cluster → ClusterEvent → FleetOutcome × Cluster
cluster_comes c (Handles e) = if needs_no_controller e then in_fleet c (fleet_comes c.fleet e) else (Silent, c)
cluster_comes c (Receives k applied) = (Silent, received_at c applied (slice_get c.messages k))
cluster_comes c (Learns v last) = (Silent, after_hearing c v (c.fleet.servers v).base (heeded (c.fleet.servers v).base last c.nonces))
cluster_comes c (Loses v) = (Silent, after_losing c v)
cluster_comes c (Notes journal fence e) = (Silent, entry_noted c journal fence e)

-- after a list of events
abbrev pub cluster_run : List ClusterEvent → Cluster → Cluster
cluster_run [] c = c
cluster_run (e ∷ es) c = cluster_run es (cluster_comes c e).1
