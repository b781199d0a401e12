-- A reopening: a controller ends all plans, fences the servers and the map's owner, lets each of them tell what it has,
-- and settles all of them anew, while whatever was sent before still comes. One may be replaced by another at any
-- point.
use Rattle.std.specs.Prelude.{ℕ, zero, suc, ◌==◌, ◌&&◌, ◌||◌, ◌++◌, Bool, true, false, not, Option, Some, None, List}
use Rattle.std.specs.Prelude.{[], ◌∷◌, is_some, is_none, max, nat_lt, option_map, slice_get, if◌then◌else◌}
use Rattle.sm_server.specs.declared.call.Cell.TheVariants.{Absent}
use Rattle.sm_placement.specs.Sums.{put}
pub use Rattle.sm_placement.specs.Opening.{is_handing}
pub use Rattle.laws_network.specs.Words.{Cell, Place, Setup, Sizes, Ticket, sizes_of}
pub use Rattle.laws_network.specs.Net.{Ask, Deliver, Net, NetEvent, NetOutcome, Order, Pass, Quiet}
pub use Rattle.laws_network.specs.World.{Inner, Publication, Store, World, WorldEvent, world_comes}

-- ---- what a party keeps

-- who is fenced and settled: each server, and the owner of the published map
pub data Party : Type 0 where
  Server : (number : ℕ) → Party
  MapOwner : Party

-- A base: no order at or below its number has an effect. A party that is fenced there takes no order at all. A server
-- that has lost its slots is Unknown: it asks for them under a nonce.
pub record Base : Type 0 where
  pub number : ℕ
  pub fenced : Bool
  pub nonce : Option ℕ

-- the party once a fence has come: one with a higher number is taken, and makes a new nonce at a server that is Unknown
abbrev pub after_fence : Base → ℕ → ℕ → Base
after_fence base number nonce =
    if nat_lt base.number number then record { number = number; fenced = true; nonce = option_map (λ old. nonce) base.nonce } else base

-- it stands fenced at this very number
abbrev pub is_fenced_at : ℕ → Base → Bool
is_fenced_at number base = base.fenced && base.number == number

-- what comes is meant for the party as it stands: it names the nonce of one that is Unknown, and none of one that has
-- its slots
abbrev pub names_nonce : Option ℕ → Option ℕ → Bool
names_nonce None None = true
names_nonce (Some nonce) (Some named) = nonce == named
names_nonce _ _ = false

-- a settle is taken once: at the fence that it ends
abbrev pub takes_settle : ℕ → Option ℕ → Base → Bool
takes_settle number nonce base = is_fenced_at number base && names_nonce base.nonce nonce

-- it was settled at this number
abbrev pub is_settled_at : ℕ → Base → Bool
is_settled_at number base = base.number == number && (not base.fenced && is_none base.nonce)

-- it has its slots, and this is its number
abbrev pub settled_base : ℕ → Base
settled_base number = record { number = number; fenced = false; nonce = None }

-- it has lost them
abbrev pub unknown_base : ℕ → Base
unknown_base nonce = record { number = 0; fenced = false; nonce = Some nonce }

-- ---- messages

-- A settlement: a configuration, and a placement of it with room for a log.
pub record Settlement : Type 0 where
  pub setup : Setup
  pub place : Place
  pub room : ℕ

-- The account of a party once it is fenced.
pub data Inventory : Type 0 where
  -- a server's slots, and which of the prepared ones have reached their cut
  Slots : (cells : ℕ → Cell) (reached : ℕ → Bool) → Inventory
  -- the server is Unknown, and asks under this nonce
  Unknown : (nonce : ℕ) → Inventory
  -- the owner has the map
  Entries : Inventory

-- what is sent between the controller and the parties
pub data Message : Type 0 where
  -- to a party; and its answer, which names the fence that it stands at
  Fence : (party : Party) (base : ℕ) → Message
  Fenced : (party : Party) (base : ℕ) (inventory : Inventory) → Message
  -- to a party, for the nonce that its answer had or none; and its answer
  Settle : (party : Party) (base : ℕ) (nonce : Option ℕ) (settlement : Settlement) → Message
  Settled : (party : Party) (base : ℕ) → Message
  -- to a server that asked under this nonce: its slots as they were recorded
  Restore : (server nonce base : ℕ) (sizes : Sizes) (cells : ℕ → Cell) → Message

-- ---- the controller

-- A reopening as its controller has recorded it.
pub record Reopening : Type 0 where
  -- its number: no order of the plans that have ended is above it
  pub base : ℕ
  -- the servers of the record, of its document and of those of the reopenings that it replaced are all below this
  -- number
  pub servers : ℕ
  -- who is lost for good
  pub lost : ℕ → Bool
  -- the first answer of each party
  pub told : Party → Option Inventory
  -- what was confirmed, and who has taken it
  pub settlement : Option Settlement
  pub settled : Party → Bool
  -- the servers to which it, or a reopening that it replaced, has sent a settle
  pub promised : ℕ → Bool

-- an entry of its journal
pub data Entry : Type 0 where
  Reopen : (base servers : ℕ) (lost : ℕ → Bool) → Entry
  Told : (party : Party) (base : ℕ) (inventory : Inventory) → Entry
  Confirm : (settlement : Settlement) → Entry
  Took : (party : Party) (base : ℕ) → Entry

-- the two are one party
abbrev pub is_party : Party → Party → Bool
is_party (Server v) (Server u) = v == u
is_party MapOwner MapOwner = true
is_party _ _ = false

-- f with another value for one party
abbrev pub put_party : {A : Type 0} → (Party → A) → Party → A → Party → A
put_party f p x q = if is_party q p then x else f q

-- the party is to be fenced
abbrev pub is_asked : Reopening → Party → Bool
is_asked r (Server v) = nat_lt v r.servers && not (r.lost v)
is_asked r MapOwner = true

-- the answer is the first one of its party to this fence
abbrev pub is_first : Reopening → Party → ℕ → Bool
is_first r p base = base == r.base && (is_none r.settlement && (is_asked r p && is_none (r.told p)))

-- the reopening once an entry is recorded
abbrev pub entered : Entry → Reopening → Reopening
entered (Reopen base servers lost) r = record {
  base = base;
  servers = max r.servers servers;
  lost = lost;
  told = λ p. None;
  settlement = None;
  settled = λ p. false;
  promised = r.promised;
}
entered (Told p base inventory) r = if is_first r p base then record r { told = put_party r.told p (Some inventory) } else r
entered (Confirm s) r = record r { settlement = Some s; promised = λ v. r.promised v || is_some (r.told (Server v)) }
entered (Took p base) r = if base == r.base && is_some r.settlement then record r { settled = put_party r.settled p true } else r

-- what is sent to each server below n
abbrev pub to_each : ℕ → (ℕ → List Message) → List Message
to_each zero f = []
to_each (suc n) f = to_each n f ++ f n

-- the fence for a party that is asked
abbrev pub fence_to : Reopening → Party → List Message
fence_to r p = if is_asked r p then Fence p r.base ∷ [] else []

-- the settle for a party that has told this
abbrev pub settle_by : ℕ → Settlement → Party → Option Inventory → List Message
settle_by base s p None = []
settle_by base s p (Some (Unknown nonce)) = Settle p base (Some nonce) s ∷ []
settle_by base s p (Some inventory) = Settle p base None s ∷ []

-- what the controller sends once it has recorded an entry; it may send it again at any time
abbrev pub sends : Entry → Reopening → List Message
sends (Reopen base servers lost) r = fence_to r MapOwner ++ to_each r.servers (λ v. fence_to r (Server v))
sends (Confirm s) r = settle_by r.base s MapOwner (r.told MapOwner)
    ++ to_each r.servers (λ v. settle_by r.base s (Server v) (r.told (Server v)))
sends _ r = []

-- ---- all of it

-- The servers, the map's owner and the network, and a reopening.
pub record Settling : Type 0 where
  -- the slots and the map as they are; what is recorded of the epoch before; and all that was sent in it
  pub world : World
  pub bases : Party → Base
  -- of each server, the rooms and loads that it was told
  pub sizes : ℕ → Sizes
  -- no nonce at or above this was ever made
  pub nonces : ℕ
  -- all fences, settles, restores and answers that were ever sent: any of them may come at any time, and again
  pub messages : List Message
  pub reopening : Reopening

-- what may happen, in any order and any number of times
pub data SettlingEvent : Type 0 where
  -- an order, a publication, a request or a passed request comes
  Comes : (event : WorldEvent) → SettlingEvent
  -- of all messages that were sent, the one at this place comes. A server that tells what it has says which cuts it has
  -- reached.
  Arrives : (place : ℕ) (reached : ℕ → Bool) → SettlingEvent
  -- a server loses its slots
  Forgets : (server : ℕ) → SettlingEvent
  -- the controller records an entry
  Records : (entry : Entry) → SettlingEvent

-- An order or a publication has no effect at who is Unknown or fenced, nor under a number at or below the base.
abbrev pub takes_number : Base → ℕ → Bool
takes_number base number = is_none base.nonce && (not base.fenced && nat_lt base.number number)

-- A server replies to no request if it is Unknown; and of a shard in a handover to none if it is fenced.
abbrev pub takes_request : Settling → ℕ → ℕ → Bool
takes_request x s v =
    let base = x.bases (Server v) in
    is_none base.nonce && not (base.fenced && is_handing (x.world.net.cells s v))

-- there is something, and it passes
abbrev pub takes : {A : Type 0} → (A → Bool) → Option A → Bool
takes test None = false
takes test (Some a) = test a

-- Each message that comes is looked at. No plan goes on: the controller records, sends and takes nothing of them.
abbrev pub is_taken : Settling → WorldEvent → Bool
is_taken x (Inner (Deliver k)) = takes (λ o. takes_number (x.bases (Server o.call.server)) o.number) (slice_get x.world.net.sent k)
is_taken x (Inner (Ask s v)) = takes_request x s v
is_taken x (Inner (Pass k)) = takes (λ t. takes_request x t.shard t.target) (slice_get x.world.net.passes k)
is_taken x (Store k) = takes (λ p. takes_number (x.bases MapOwner) p.entry.version) (slice_get x.world.published k)
is_taken x _ = false

-- what comes of an event in the world
abbrev pub in_world : Settling → NetOutcome × World → NetOutcome × Settling
in_world x o = (o.0, record x { world = o.1 })

-- the cells of one server are these
abbrev pub with_column : Settling → ℕ → (ℕ → Cell) → World
with_column x v cells = record x.world { net = record x.world.net { cells = λ s u. if u == v then cells s else x.world.net.cells s u } }

-- a server with other slots
abbrev pub granted : Settling → ℕ → ℕ → Sizes → (ℕ → Cell) → Settling
granted x v number sizes cells =
    record x { world = with_column x v cells; bases = put_party x.bases (Server v) (settled_base number); sizes = put x.sizes v sizes }

-- a party takes its part of a settlement
abbrev pub part_taken : Settling → Party → ℕ → Settlement → Settling
part_taken x (Server v) number s = granted x v number (sizes_of s.setup) (λ k. s.place.cells k v)
part_taken x MapOwner number s = record x {
  world = record x.world { shown = λ k. record { server = s.place.listed k; version = number } };
  bases = put_party x.bases MapOwner (settled_base number);
}

-- what a party tells that stands at this base
abbrev pub inventory_by : Settling → Party → Option ℕ → (ℕ → Bool) → Inventory
inventory_by x (Server v) None reached = Slots (λ s. x.world.net.cells s v) reached
inventory_by x (Server v) (Some nonce) reached = Unknown nonce
inventory_by x MapOwner _ reached = Entries

-- more messages were sent
abbrev pub with_messages : Settling → List Message → Settling
with_messages x ms = record x { messages = x.messages ++ ms }

-- a fence is answered by who then stands at it
abbrev pub fence_comes : Settling → Party → ℕ → (ℕ → Bool) → Settling
fence_comes x p number reached =
    let base = after_fence (x.bases p) number x.nonces in
    let there = record x { bases = put_party x.bases p base; nonces = suc x.nonces } in
    if is_fenced_at number base then with_messages there (Fenced p number (inventory_by x p base.nonce reached) ∷ []) else there

-- a settle is answered by who takes it, or was settled there
abbrev pub settle_comes : Settling → Party → ℕ → Option ℕ → Settlement → Settling
settle_comes x p number nonce s =
    if takes_settle number nonce (x.bases p) then with_messages (part_taken x p number s) (Settled p number ∷ [])
    else if is_settled_at number (x.bases p) then with_messages x (Settled p number ∷ [])
    else x

-- the controller records an entry, and sends what follows from it
abbrev pub records : Settling → Entry → Settling
records x e = let r = entered e x.reopening in record x { reopening = r; messages = x.messages ++ sends e r }

-- a message comes, if there is one
abbrev pub arrives : Settling → (ℕ → Bool) → Option Message → Settling
arrives x reached None = x
arrives x reached (Some (Fence p number)) = fence_comes x p number reached
arrives x reached (Some (Settle p number nonce s)) = settle_comes x p number nonce s
arrives x reached (Some (Restore v nonce number sizes cells)) =
    if names_nonce (x.bases (Server v)).nonce (Some nonce) then granted x v number sizes cells else x
arrives x reached (Some (Fenced p number inventory)) = records x (Told p number inventory)
arrives x reached (Some (Settled p number)) = records x (Took p number)

-- a server has no slots any more, and will ask under a new nonce
abbrev pub forgets : Settling → ℕ → Settling
forgets x v =
    let w = with_column x v (λ s. Absent) in
    record x {
      world = record w { net = record w.net { last = λ s u. if u == v then 0 else x.world.net.last s u } };
      bases = put_party x.bases (Server v) (unknown_base x.nonces);
      nonces = suc x.nonces;
    }

-- what an event does, with its outcome
abbrev pub settling_comes : Settling → SettlingEvent → NetOutcome × Settling
settling_comes x (Comes e) = if is_taken x e then in_world x (world_comes x.world e) else (Quiet, x)
settling_comes x (Arrives k reached) = (Quiet, arrives x reached (slice_get x.messages k))
settling_comes x (Forgets v) = (Quiet, forgets x v)
settling_comes x (Records e) = (Quiet, records x e)

-- after a list of events
abbrev pub settling_run : List SettlingEvent → Settling → Settling
settling_run [] x = x
settling_run (e ∷ es) x = settling_run es (settling_comes x e).1
