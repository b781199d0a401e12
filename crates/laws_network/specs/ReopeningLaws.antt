-- The laws of a reopening, behind their premises.
use Rattle.std.specs.Prelude.{◌≡◌, ◌≢◌, ◌≤◌, ◌<◌, ◌⊎◌, ℕ, ◌+◌, ◌*◌, ◌&&◌, ◌++◌, Bool, true, false, not, Option, Some}
use Rattle.std.specs.Prelude.{None, List, [], ◌∷◌, is_some, is_none, length, max, if◌then◌else◌}
use Rattle.sm_server.specs.declared.call.Cell.TheVariants as cell
use Rattle.sm_protocol.specs.Laws.{MOST_PLACES}
pub use Rattle.laws_network.specs.Words.{AllByRecursion, Played, Setup, Sizes, State, IsOpening, load_of, opened}
pub use Rattle.laws_network.specs.Words.{sizes_of}
pub use Rattle.laws_network.specs.Net.{Refusal, Refused, Replied}
pub use Rattle.laws_network.specs.Laws.{shard_asked}
pub use Rattle.laws_network.specs.WorldLaws.{IsWorldOpening, IsWorldReached}
pub use Rattle.laws_network.specs.Reopening.{Base, Cell, Comes, Confirm, Entry, Fence, Fenced, Settling, SettlingEvent}
pub use Rattle.laws_network.specs.Reopening.{Inner, Inventory, MapOwner, Message, Net, NetOutcome, Order, Party}
pub use Rattle.laws_network.specs.Reopening.{Records, Reopen, Reopening, Restore, Server, Settle, Settled, Settlement}
pub use Rattle.laws_network.specs.Reopening.{Slots, World, WorldEvent, settling_comes, settled_base, settling_run}
pub use Rattle.laws_network.specs.Reopening.{is_asked, is_handing, entered, records, sends}

-- ---- what may be settled

-- The cells that a cell may become: a primary stays; a secondary stays, or becomes the primary; a party of a handover
-- becomes the primary, or gives the shard up.
abbrev pub Keeps : Cell → Cell → Type 0
Keeps cell.Primary next = next ≡ cell.Primary
Keeps cell.Secondary next = (next ≡ cell.Secondary) ⊎ (next ≡ cell.Primary)
Keeps cell.Absent next = next ≡ cell.Absent
Keeps _ next = (next ≡ cell.Primary) ⊎ (next ≡ cell.Absent)

-- The claim to the shard that a cell gives: a primary has the best; then an old owner that forwards, and a new one that
-- has reached its cut; then a secondary; then a new owner that has not. An absent cell gives none.
abbrev pub claim : Cell → Bool → ℕ
claim cell.Absent reached = 0
claim (cell.Prepared from number) false = 1
claim cell.Secondary reached = 2
claim (cell.Prepared from number) true = 3
claim (cell.Forwarding to number) reached = 3
claim cell.Primary reached = 4

-- A server that has not answered may be carried over as it is recorded: it is recorded as down, and was sent no settle
-- since.
abbrev pub is_carried : Reopening → State → ℕ → Bool
is_carried r w v = is_asked r (Server v) && (is_none (r.told (Server v)) && (w.place.down v && not (r.promised v)))

-- the claim of a server by what it told
abbrev pub claim_told : Option Inventory → ℕ → ℕ
claim_told (Some (Slots cells reached)) s = claim (cells s) (reached s)
claim_told _ s = 0

-- the claim of a server, by what it told or, if it is carried over, by what is recorded; one that is Unknown has none
abbrev pub claim_of : Reopening → State → ℕ → ℕ → ℕ
claim_of r w s v = if is_carried r w v then claim (w.place.cells s v) false else claim_told (r.told (Server v)) s

-- The controller may confirm this settlement: each party has answered, or is a server that is carried over or lost. No
-- primary is moved. If a server has a claim to a shard, be it carried over, the shard's primary has one. A shard has a
-- primary if a party of its handover is left.
pub record MaySettle (r : Reopening) (w : State) (s : Settlement) : Type 0 where
  pub first : r.settlement ≡ None
  pub opening : IsOpening s.setup s.place s.room
  pub servers : length s.setup.servers ≤ r.servers
  pub map : is_some (r.told MapOwner) ≡ true
  pub answered : (v : ℕ) → is_asked r (Server v) ≡ true
      → (is_some (r.told (Server v)) ≡ true) ⊎ (is_carried r w v ≡ true)
  pub kept : (k v : ℕ) (cells : ℕ → Cell) (reached : ℕ → Bool) → r.told (Server v) ≡ Some (Slots cells reached)
      → Keeps (cells k) (s.place.cells k v)
  pub carried : (k v : ℕ) → is_carried r w v ≡ true → s.place.cells k v ≡ w.place.cells k v
  pub down : (v : ℕ) → is_carried r w v ≡ true → v < length s.setup.servers → s.place.down v ≡ true
  pub lost : (k v : ℕ) → r.lost v ≡ true → s.place.cells k v ≡ cell.Absent
  pub claims : (k u v : ℕ) → s.place.cells k v ≡ cell.Primary → 0 < claim_of r w k u → 0 < claim_of r w k v
  pub handed : (k v : ℕ) (cells : ℕ → Cell) (reached : ℕ → Bool) → r.told (Server v) ≡ Some (Slots cells reached)
      → is_handing (cells k) ≡ true →
      (u : ℕ) × (s.place.cells k u ≡ cell.Primary)

-- ---- how a reopening begins, and what may come

-- the load of a server is within its room
abbrev pub IsWithinRoom : Sizes → (ℕ → ℕ → Cell) → ℕ → Type 0
IsWithinRoom c cells v = v < c.servers → load_of c cells v ≤ c.room v

-- The server has the slots that the network's laws speak of, and was told rooms and loads as they are recorded if it is
-- recorded as up. Their last numbers are the same, or both at or below its base: then no order meets a difference.
pub record HasSlots (w : World) (x : Settling) (v : ℕ) : Type 0 where
  pub cells : (s : ℕ) → x.world.net.cells s v ≡ w.net.cells s v
  pub lasts : (s : ℕ) → (x.world.net.last s v ≡ w.net.last s v)
      ⊎ ((x.world.net.last s v ≤ (x.bases (Server v)).number) × (w.net.last s v ≤ (x.bases (Server v)).number))
  pub sizes : w.net.w.place.down v ≡ false → v < w.net.w.sizes.servers → x.sizes v ≡ w.net.w.sizes
  pub loads : IsWithinRoom (x.sizes v) x.world.net.cells v

-- a settle that was sent long ago is taken by nobody: its party has gone on, or asks under another nonce
pub record IsOutdated (base : Base) (number : ℕ) (nonce : Option ℕ) : Type 0 where
  pub has_slots : base.nonce ≡ None → nonce ≡ None
      → (number < base.number) ⊎ ((number ≡ base.number) × (base.fenced ≡ false))
  pub has_none : (n : ℕ) → nonce ≡ Some n → base.nonce ≢ Some n

-- a settle for the server has a number at or below this one
abbrev pub IsSettleBelow : ℕ → ℕ → Message → Type 0
IsSettleBelow v number (Settle p base _ s) = p ≡ Server v → base ≤ number
IsSettleBelow v number _ = Unit {0}

-- a restore that its server waits for brings the slots that it had, above all that was sent to it
pub record IsRestoring (w : World) (x : Settling) (v number : ℕ) (sizes : Sizes) (cells : ℕ → Cell) : Type 0 where
  pub cells_had : (s : ℕ) → cells s ≡ w.net.cells s v
  pub sizes_had : sizes ≡ w.net.w.sizes
  pub number_had : number ≤ w.net.base + length w.net.w.log
  pub lasts_had : (s : ℕ) → w.net.last s v ≤ number
  pub settles : AllByRecursion (IsSettleBelow v number) x.messages

-- a message of the epochs before
abbrev pub IsPast : World → Settling → Message → Type 0
IsPast w x (Fence p base) = base ≤ w.net.base + length w.net.w.log
IsPast w x (Fenced p base inventory) = base ≤ w.net.base + length w.net.w.log
IsPast w x (Settle p base nonce s) =
    (base ≤ w.net.base + length w.net.w.log) × ((n : ℕ) → nonce ≡ Some n → n < x.nonces)
    × IsOutdated (x.bases p) base nonce
IsPast w x (Settled p base) = base ≤ w.net.base + length w.net.w.log
IsPast w x (Restore v nonce number sizes cells) = (nonce < x.nonces)
    × ((x.bases (Server v)).nonce ≡ Some nonce → IsRestoring w x v number sizes cells)

-- The world before a reopening is one that the network leads to, but for the slots that servers have lost.
pub record IsOutset (setup : Setup) (x : Settling) : Type 0 where
  pub world : World
  pub reached : IsWorldReached setup world
  pub same : x.world ≡ record world { net = record world.net { cells = x.world.net.cells; last = x.world.net.last } }
  pub slots : (v : ℕ) → (x.bases (Server v)).nonce ≡ None → HasSlots world x v
  pub blank : (v n : ℕ) → (x.bases (Server v)).nonce ≡ Some n → (s : ℕ) → x.world.net.last s v ≡ 0
  pub map : x.bases MapOwner ≡ record { number = (x.bases MapOwner).number; fenced = false; nonce = None }
  pub numbers : (p : Party) → (x.bases p).number ≤ world.net.base + length world.net.w.log
  pub nonces : (p : Party) (n : ℕ) → (x.bases p).nonce ≡ Some n → n < x.nonces
  pub messages : AllByRecursion (IsPast world x) x.messages
  pub servers : x.reopening.servers ≡ world.net.w.sizes.servers
  pub promised : (v : ℕ) → x.reopening.promised v ≡ false

-- the message brings no slots to who asks under this nonce
abbrev pub IsNotFor : ℕ → ℕ → Message → Type 0
IsNotFor v n (Settle p base nonce s) = p ≡ Server v → nonce ≢ Some n
IsNotFor v n (Restore u nonce number sizes cells) = u ≡ v → nonce ≢ n
IsNotFor v n _ = Unit {0}

-- A controller that gives a server up is right that it will not serve again with its old slots: it has lost them, and
-- nothing that was sent brings them back.
pub record IsGivenUp (x : Settling) (v : ℕ) : Type 0 where
  pub nonce : ℕ
  pub unknown : (x.bases (Server v)).nonce ≡ Some nonce
  pub unmet : AllByRecursion (IsNotFor v nonce) x.messages

-- A reopening may begin with this number: it is above that of the one under way, and above all numbers of the epoch
-- before, whose log has at most this many places.
pub record MayReopen (x : Settling) (base : ℕ) (lost : ℕ → Bool) : Type 0 where
  pub later : x.reopening.base < base
  pub places : x.world.net.base + 2 * MOST_PLACES ≤ base
  pub versions : (s : ℕ) → x.world.net.base + x.world.net.w.place.version s < base
  pub given_up : (v : ℕ) → lost v ≡ true → IsGivenUp x v

-- what the controller begins or confirms is what it may; it records answers only as they come
abbrev pub SettlingFits : Settling → SettlingEvent → Type 0
SettlingFits x (Records (Reopen base servers lost)) = MayReopen x base lost
SettlingFits x (Records (Confirm s)) = MaySettle x.reopening x.world.net.w s
SettlingFits x (Records _) = ⊥
SettlingFits x _ = Unit {0}

-- each of these events is so when it comes
abbrev pub AllSettlingFit : List SettlingEvent → Settling → Type 0
AllSettlingFit [] x = Unit {0}
AllSettlingFit (e ∷ es) x = SettlingFits x e × AllSettlingFit es (settling_comes x e).1

-- a reopening has begun, and events lead on to this
pub record IsSettlingReached (setup : Setup) (x : Settling) : Type 0 where
  pub start : Settling
  pub outset : IsOutset setup start
  pub base : ℕ
  pub servers : ℕ
  pub lost : ℕ → Bool
  pub begun : MayReopen start base lost
  pub events : List SettlingEvent
  pub fit : AllSettlingFit events (records start (Reopen base servers lost))
  pub state : x ≡ settling_run events (records start (Reopen base servers lost))

-- so it is wherever events lead
abbrev pub EachSettling : (Settling → Type 0) → Type 0
EachSettling P = (setup : Setup) (x : Settling) → IsSettlingReached setup x → P x

-- ---- laws

-- the shard that a request is for
abbrev pub shard_requested : World → WorldEvent → Option ℕ
shard_requested w (Inner e) = shard_asked w.net e
shard_requested w _ = None

-- a request for the shard, direct or passed on however long ago, may be executed at the server now
abbrev pub Executes : Settling → ℕ → ℕ → Type 0
Executes x s v = (e : WorldEvent) × (shard_requested x.world e ≡ Some s)
    × ((settling_comes x (Comes e)).0 ≡ Replied (Played.Executed v))

-- At most one server executes requests of a shard, by the slots that it has: none that is Unknown does, and one that is
-- fenced only as the primary.
pub record ExecutesSafely (x : Settling) : Type 0 where
  pub one : (s u v : ℕ) → Executes x s u → Executes x s v → u ≡ v
  pub slots : (s v : ℕ) → Executes x s v → (x.bases (Server v)).nonce ≡ None
  pub frozen : (s v : ℕ) → Executes x s v → (x.bases (Server v)).fenced ≡ true → x.world.net.cells s v ≡ cell.Primary

-- the loads of a server are within its room, both as it was told them
abbrev pub LoadsFit : Settling → Type 0
LoadsFit x = (v : ℕ) → (x.bases (Server v)).nonce ≡ None → IsWithinRoom (x.sizes v) x.world.net.cells v

-- no server refuses an order, however late it comes
abbrev pub RefusesNone : Settling → Type 0
RefusesNone x = (e : SettlingEvent) (why : Refusal) → (settling_comes x e).0 ≢ Refused why

-- what a server has told is what it has, unless it forgot since
abbrev pub ToldIsHad : Settling → Type 0
ToldIsHad x = (v : ℕ) (cells : ℕ → Cell) (reached : ℕ → Bool)
    → x.reopening.told (Server v) ≡ Some (Slots cells reached) → x.reopening.settlement ≡ None →
    (x.bases (Server v)).nonce ≡ None → (s : ℕ) → x.world.net.cells s v ≡ cells s

-- The server that the map shows executes, or forwards to the one that does; or it is fenced, or Unknown, or the map's
-- owner is fenced.
abbrev pub ShownExecutes : Settling → Type 0
ShownExecutes x = (s u v : ℕ) → (x.world.shown s).server ≡ Some u → (x.bases MapOwner).fenced ≡ false →
    (x.bases (Server u)).nonce ≡ None → (x.bases (Server u)).fenced ≡ false → Executes x s v →
    (u ≡ v) ⊎ ((number : ℕ) × (x.world.net.cells s u ≡ cell.Forwarding v number))

-- each party that was sent the settlement has taken it
abbrev pub AllTook : Reopening → Type 0
AllTook r = (p : Party) → is_some (r.told p) ≡ true → r.settled p ≡ true

-- The world in which the settlement is in force: a server that is Unknown counts with what a restore will bring it.
abbrev pub in_force : Settling → Settlement → World
in_force x s =
    let has_slots = λ (v : ℕ). is_none (x.bases (Server v)).nonce in
    record x.world {
      net = record x.world.net {
        w = opened (sizes_of s.setup) s.place s.room;
        base = x.reopening.base;
        cells = λ k v. if has_slots v then x.world.net.cells k v else s.place.cells k v;
        last = λ k v. if has_slots v then max (x.world.net.last k v) (x.bases (Server v)).number else x.reopening.base;
      };
    }

-- Once all have taken it, what the servers have is the settlement, and it opens an epoch with a past: all laws of the
-- network hold from there on, whatever of the epochs before still comes.
abbrev pub OpensWithPast : Settling → Type 0
OpensWithPast x = (s : Settlement) → x.reopening.settlement ≡ Some s → AllTook x.reopening →
    ((k v : ℕ) → (x.bases (Server v)).nonce ≡ None → x.world.net.cells k v ≡ s.place.cells k v)
    × IsWorldOpening s.setup (in_force x s)

-- ---- before the first one, and after each

-- no reopening has begun yet, over these servers
abbrev pub no_reopening : ℕ → Reopening
no_reopening servers =
    record { base = 0; servers = servers; lost = λ v. false; told = λ p. None; settlement = None; settled = λ p. false; promised = λ v. false }

-- servers that have lost nothing, and no message but those of the network
abbrev pub at_first : World → Settling
at_first w = record {
  world = w;
  bases = λ p. settled_base 0;
  sizes = λ v. w.net.w.sizes;
  nonces = 0;
  messages = [];
  reopening = no_reopening w.net.w.sizes.servers;
}

-- a reopening can begin wherever the network leads
abbrev pub CanBegin : Type 0
CanBegin = (setup : Setup) (w : World) → IsWorldReached setup w → IsOutset setup (at_first w)

-- no server waits for the restore
abbrev pub IsUnawaited : Settling → Message → Type 0
IsUnawaited x (Restore v nonce number sizes cells) = (x.bases (Server v)).nonce ≢ Some nonce
IsUnawaited x _ = Unit {0}

-- the settlement is in force, over the servers as they are
abbrev pub after_it : Settling → Settlement → Settling
after_it x s = record x {
  world = record (in_force x s) { net = record (in_force x s).net { cells = x.world.net.cells; last = x.world.net.last } };
  reopening = no_reopening (length s.setup.servers);
}

-- Once a settlement is in force, the next reopening can begin, if no server waits for a restore of before.
abbrev pub CanBeginAgain : Settling → Type 0
CanBeginAgain x = (s : Settlement) → x.reopening.settlement ≡ Some s → AllTook x.reopening
    → AllByRecursion (IsUnawaited x) x.messages → IsOutset s.setup (after_it x s)

-- ---- what a settlement keeps

-- what is known of a server's cell: it told so, or it is carried over and is recorded so
abbrev pub IsKnownAs : Reopening → State → ℕ → ℕ → Cell → Type 0
IsKnownAs r w s v c =
    ((cells : ℕ → Cell) × (reached : ℕ → Bool) × (r.told (Server v) ≡ Some (Slots cells reached)) × (cells s ≡ c))
    ⊎ ((is_carried r w v ≡ true) × (w.place.cells s v ≡ c))

-- no server that told its slots has part in a handover of the shard
abbrev pub IsAtRest : Reopening → ℕ → Type 0
IsAtRest r s = (v : ℕ) (cells : ℕ → Cell) (reached : ℕ → Bool) → r.told (Server v) ≡ Some (Slots cells reached)
    → is_handing (cells s) ≡ false

-- who is primary once a handover is settled: who is known to have something of the shard
abbrev pub IsSuccessor : Reopening → State → ℕ → ℕ → Type 0
IsSuccessor r w s u = (c : Cell) × IsKnownAs r w s u c × (c ≢ cell.Absent)

-- A shard with no handover under way, whose primary is there, keeps the cells of its survivors; one of whose handover a
-- party is left has one primary.
pub record IsFair (r : Reopening) (w : State) (s : Settlement) : Type 0 where
  pub kept : (k u v : ℕ) (c : Cell) → IsAtRest r k → IsKnownAs r w k u cell.Primary → IsKnownAs r w k v c
      → s.place.cells k v ≡ c
  pub handed : (k v : ℕ) (cells : ℕ → Cell) (reached : ℕ → Bool) → r.told (Server v) ≡ Some (Slots cells reached)
      → is_handing (cells k) ≡ true →
      (u : ℕ) × (s.place.cells k u ≡ cell.Primary) × ((v : ℕ) → s.place.cells k v ≡ cell.Primary → v ≡ u)
      × IsSuccessor r w k u

-- whatever may be confirmed is fair
abbrev pub SettlesFairly : Type 0
SettlesFairly = (r : Reopening) (w : State) (s : Settlement) → MaySettle r w s → IsFair r w s

-- ---- journals

-- what a controller with this journal has sent, and its reopening then
abbrev pub journal_run : List Entry → Reopening → Reopening
journal_run [] r = r
journal_run (e ∷ es) r = journal_run es (entered e r)

-- all that it has sent
abbrev pub journal_sends : List Entry → Reopening → List Message
journal_sends [] r = []
journal_sends (e ∷ es) r = sends e (entered e r) ++ journal_sends es (entered e r)

-- Whatever a controller with any beginning of a journal sends is among what the whole journal sends.
abbrev pub SendsFromBeginnings : Type 0
SendsFromBeginnings = (front back : List Entry) (r : Reopening)
    → journal_sends (front ++ back) r ≡ journal_sends front r ++ journal_sends back (journal_run front r)
