-- The laws of the fleet, behind their premises.
use Rattle.std.specs.Prelude.{◌≡◌, ◌≢◌, ◌≤◌, ◌<◌, ◌⊎◌, ℕ, suc, ◌+◌, ◌==◌, ◌&&◌, ◌++◌, Bool, true, false, not}
use Rattle.std.specs.Prelude.{if◌then◌else◌, Some, List, [], ◌∷◌, IsSome, count_by, length, map, slice_get}
use Rattle.sm_server.specs.declared.call.Cell.TheVariants.{Absent, Forwarding, Prepared}
use Rattle.sm_server.specs.declared.call.Refusal.{Refusal}
use Rattle.sm_server.specs.Call.{led_to}
use Rattle.sm_placement.specs.Rows.{serves}
use Rattle.sm_placement.specs.Sums.{bit, count_below}
use Rattle.sm_placement.specs.Place.{down_count, is_live_at, load_of}
use Rattle.sm_agent.specs.declared.order.Verdict.TheVariants as verdict
use Rattle.sm_agent.specs.declared.request.Routing.TheVariants.{Execute}
use Rattle.sm_agent.specs.declared.base.Base.{Base}
use Rattle.sm_agent.specs.Base.{lacks_slots}
use Rattle.sm_plan_code.specs.declared.limits.TheConstants.{MOST_PLACES}
use Rattle.sm_agent.specs.Order.{begun_slot, committed, is_done, cell_load}
use Rattle.sm_protocol.specs.Happens.{engages}
use Rattle.laws_network.specs.Words.{Setup, sizes_of, IsSafePlace, IsServing, AreDone, FitsConfig, IsOpening, IsReached}
use Rattle.laws_network.specs.Words.{StreamId, Step, ends_of, is_begun, is_unfinished, stream_count, stream_id}
use Rattle.laws_network.specs.Net.{order_of, cell_above}
use Rattle.laws_network.specs.Laws.{HasMovedOn, is_for}
use Rattle.laws_network.specs.World.{World}
use Rattle.laws_network.specs.WorldLaws.{IsWorldOpening}
use Rattle.laws_network.specs.Controller.{Answered, EPOCH, Made, Notice, Stored, entry_recorded, is_permitted}
use Rattle.laws_network.specs.Controller.{notice_of}
use Rattle.laws_network.specs.Fleet.{Cell, Committed, Controller, End, Fleet, FleetEvent, FleetOutcome, Judged, Letter}
use Rattle.laws_network.specs.Fleet.{Make, Open, Order, Place, Restore, Routed, Server, controller, earlier}
use Rattle.laws_network.specs.Fleet.{fleet_comes, fleet_run, has_lost, held_cells, letter_of, order_read, owner_verdict}
use Rattle.laws_network.specs.Fleet.{slot_for, verdict_of}

-- The controller's own events name known servers and plans that were checked, and an epoch's log has room for those who
-- are down.
abbrev pub FleetFits : Setup → Fleet → FleetEvent → Type 0
FleetFits setup f (Make e) = FitsConfig (sizes_of setup) e
FleetFits setup f (End v permit) = v < (sizes_of setup).servers
FleetFits setup f (Open room) = (down_count (sizes_of setup) (controller f).w.place ≤ room) × (room ≤ MOST_PLACES)
FleetFits setup f _ = Unit {0}

-- each of these events is so when it comes
abbrev pub AllFleetFit : Setup → Fleet → List FleetEvent → Type 0
AllFleetFit setup f [] = Unit {0}
AllFleetFit setup f (e ∷ es) = FleetFits setup f e × AllFleetFit setup (fleet_comes f e).1 es

-- controller, servers and the map's owner as the laws of the network see them, with the numbers of the last orders that
-- had an effect
abbrev pub world_of : Fleet → (ℕ → ℕ → ℕ) → World
world_of f last = record {
  net = record {
    w = (controller f).w;
    base = (controller f).base;
    cells = held_cells f;
    last = last;
    sent = map (λ l. l.order) f.sent;
    answers = f.answers;
    passes = map (λ h. record { place = 0; shard = h.shard; sender = h.pass.from; target = h.target; number = h.pass.handover }) f.passes;
  };
  shown = f.shown;
  published = map (λ n. n.publication) f.published;
  stored = f.stored;
}

-- A server that has its slots is of the controller's journal, and its base or its slot turns away what had its effect.
pub record IsKnown (c : Controller) (server : Server) (last : ℕ → ℕ) : Type 0 where
  pub journal : server.base.journal ≡ c.journal
  pub taken : server.base.fenced ≡ false
  pub fence : c.fence ≤ server.base.number
  pub number : server.base.number ≤ c.base
  pub lasts : (s : ℕ) →
      ((server.base.number < (server.slots s).last) × (last s ≡ (server.slots s).last))
      ⊎ (((server.slots s).last ≤ server.base.number) × (last s ≤ server.base.number))
  pub loads : (s : ℕ) → (server.slots s).load ≡ cell_load (server.slots s).cell (c.w.sizes.load s)

-- the server has asked under this nonce
abbrev pub HasAskedUnder : List ℕ → ℕ → ℕ → Type 0
HasAskedUnder asks v nonce = (k : ℕ) × (nonce ≡ suc k) × (slice_get asks k ≡ Some v)

-- the map's owner takes what comes above the base
pub record IsOwner (c : Controller) (owner : Base) : Type 0 where
  pub known : lacks_slots owner ≡ false
  pub journal : owner.journal ≡ c.journal
  pub taken : owner.fenced ≡ false
  pub fence : c.fence ≤ owner.number
  pub number : owner.number ≤ c.base

-- Each permit is of one server, and is below all that will be given, or beside them.
pub record ArePermits (c : Controller) : Type 0 where
  pub range : (v permit : ℕ) → c.permits v ≡ Some permit
      → (permit ≤ c.base) ⊎ ((c.base + MOST_PLACES < permit) × (permit ≤ c.base + EPOCH))
  pub apart : (u v permit : ℕ) → c.permits u ≡ Some permit → c.permits v ≡ Some permit → u ≡ v

-- A fleet opens on what is there: a settled placement and an empty journal. Servers have their slots, or have lost them
-- and ask for them. Orders that were sent earlier may come, and are old.
pub record IsFleetOpening (setup : Setup) (f : Fleet) : Type 0 where
  pub journal : f.journal ≡ []
  pub last : ℕ → ℕ → ℕ
  pub world : IsWorldOpening setup (world_of f last)
  pub fence : f.start.fence ≤ f.start.base
  pub restores : f.start.restores ≡ []
  pub servers : (v : ℕ) → has_lost f v ≡ false → IsKnown f.start (f.servers v) (λ s. last s v)
  pub nonces : (v nonce : ℕ) → (f.servers v).base.nonce ≡ Some nonce → HasAskedUnder f.asks v nonce
  pub owner : IsOwner f.start f.owner
  pub permits : ArePermits f.start

-- a fleet can open on each placement that a machine can open on
abbrev pub FleetOpens : Type 0
FleetOpens = (setup : Setup) (p : Place) (room : ℕ) → IsOpening setup p room →
    (f : Fleet) × IsFleetOpening setup f × ((s v : ℕ) → ((f.servers v).slots s).cell ≡ p.cells s v)

-- events lead from an opening to this
pub record IsFleetReached (setup : Setup) (f : Fleet) : Type 0 where
  pub first : Fleet
  pub opening : IsFleetOpening setup first
  pub events : List FleetEvent
  pub fit : AllFleetFit setup first events
  pub state : f ≡ fleet_run events first

-- so it is wherever events lead
abbrev pub EachFleet : (Setup → Fleet → Type 0) → Type 0
EachFleet P = (setup : Setup) (f : Fleet) → IsFleetReached setup f → P setup f

-- ---- laws

-- what the controller has recorded is a state of the protocol that events lead to
abbrev pub FleetIsReached : Setup → Fleet → Type 0
FleetIsReached setup f = IsReached setup (controller f).w

-- no server refuses an order
abbrev pub NoLetterIsRefused : Setup → Fleet → Type 0
NoLetterIsRefused setup f = (e : FleetEvent) (l : Letter) (why : Refusal)
    → (fleet_comes f e).0 ≢ Judged l (verdict.Refused why)

-- An order is the present one of its stream: the controller that has the whole journal sends it.
abbrev pub IsPresent : Fleet → Letter → Type 0
IsPresent f l = letter_of (controller f) l.order.stream ≡ Some l

-- the order that an event commits
abbrev pub order_committed : FleetOutcome → List Order
order_committed (Committed o) = o ∷ []
order_committed _ = []

-- the orders that are committed along a list of events
abbrev pub orders_committed : List FleetEvent → Fleet → List Order
orders_committed [] f = []
orders_committed (e ∷ es) f = order_committed (fleet_comes f e).0 ++ orders_committed es (fleet_comes f e).1

-- An order or a restore of a controller with any beginning of the journal does no harm. An order of it is still the
-- present one of its stream, or nothing has an effect under its number on its cell any more; and its restores are among
-- those of the whole journal.
pub record BeginningsAreHarmless (setup : Setup) (f : Fleet) : Type 0 where
  pub orders : (lost : ℕ) (id : StreamId) (l : Letter) → letter_of (earlier f lost) id ≡ Some l →
      (order_of (controller f).base (controller f).w l.order.stream ≡ Some l.order)
      ⊎ ((es : List FleetEvent) → AllFleetFit setup f es →
      count_by (is_for l.order.call.shard l.order.call.server l.order.number) (orders_committed es f) ≡ 0)
  pub restores : (lost k : ℕ) (r : Restore) → slice_get (earlier f lost).restores k ≡ Some r
      → slice_get (controller f).restores k ≡ Some r

-- A present order is begun, goes on or is answered again, unless its server has lost its slots: so what is turned away
-- as old is past.
abbrev pub PresentIsHeard : Setup → Fleet → Type 0
PresentIsHeard setup f = (l : Letter) → IsPresent f l →
    (has_lost f l.order.call.server ≡ true)
    ⊎ ((verdict_of f l ≡ verdict.Begin) ⊎ ((verdict_of f l ≡ verdict.Working) ⊎ (verdict_of f l ≡ verdict.Again)))

-- Only present orders have an effect, of all that were ever sent, by controllers that were deposed or have crashed too.
abbrev pub OnlyPresentCommits : Setup → Fleet → Type 0
OnlyPresentCommits setup f = (e : FleetEvent) (o : Order) → (fleet_comes f e).0 ≡ Committed o →
    order_of (controller f).base (controller f).w o.stream ≡ Some o

-- No server that is recorded as down commits an order: so whatever comes to one in its restart changes nothing there.
abbrev pub CommitsWhereUp : Setup → Fleet → Type 0
CommitsWhereUp setup f = (e : FleetEvent) (o : Order) → (fleet_comes f e).0 ≡ Committed o
    → (controller f).w.place.down o.call.server ≡ false

-- the placement as the servers have it, or had it before they lost it
abbrev pub held_place : Fleet → Place
held_place f = record (controller f).w.place { cells = held_cells f }

-- the placement as the servers have it: one that has lost its slots has nothing
abbrev pub real_cells : Fleet → ℕ → ℕ → Cell
real_cells f s v = if has_lost f v then Absent else ((f.servers v).slots s).cell

-- how many replicas of a shard are live at servers that are neither recorded as down nor have lost their slots
abbrev pub live_and_known : Fleet → ℕ → ℕ
live_and_known f s = count_below (controller f).w.sizes.servers (λ v. is_live_at (held_place f) s v && not (has_lost f v))

-- At most one server serves each shard, and loads are within room, whichever servers have lost their slots. If only
-- servers that are recorded as down have lost theirs, no fewer replicas are live at the others than the floor.
pub record FleetIsSafe (setup : Setup) (f : Fleet) : Type 0 where
  pub held : IsSafePlace (controller f).w.sizes (held_place f)
  pub serving : (s u v : ℕ) → serves (real_cells f s) u ≡ true → serves (real_cells f s) v ≡ true → u ≡ v
  pub rooms : (v : ℕ) → v < (controller f).w.sizes.servers
      → load_of (controller f).w.sizes (real_cells f) v ≤ (controller f).w.sizes.room v
  pub floors : ((v : ℕ) → v < (controller f).w.sizes.servers → has_lost f v ≡ true
      → (controller f).w.place.down v ≡ true) →
      (s : ℕ) → s < (controller f).w.sizes.shards → (controller f).w.sizes.floor s ≤ live_and_known f s

-- A server that executes a request, which came from a client or was passed on however long ago, has its slots and is
-- the one server that serves.
abbrev pub ExecutesAtOneServer : Setup → Fleet → Type 0
ExecutesAtOneServer setup f = (e : FleetEvent) (s v : ℕ) → (fleet_comes f e).0 ≡ Routed s v Execute →
    (has_lost f v ≡ false) × IsServing (held_place f) s v × ((u : ℕ) → IsServing (held_place f) s u → u ≡ v)

-- No number has its effect twice on a cell, over all epochs, crashes, restores and later orders.
abbrev pub CommitsOncePerNumber : Setup → Fleet → Type 0
CommitsOncePerNumber setup f = (es : List FleetEvent) (s v number : ℕ) → AllFleetFit setup f es →
    count_by (is_for s v number) (orders_committed es f) ≤ 1

-- the event ends a restart by this permit
abbrev pub ends_restart : ℕ → Fleet → FleetEvent → Bool
ends_restart permit f (End v named) = (named == permit) && is_permitted ((controller f).permits v) named
ends_restart permit f _ = false

-- how many restarts end by this permit along a list of events
abbrev pub restarts_ended : ℕ → List FleetEvent → Fleet → ℕ
restarts_ended permit [] f = 0
restarts_ended permit (e ∷ es) f = bit (ends_restart permit f e) + restarts_ended permit es (fleet_comes f e).1

-- a permit ends at most one restart, over all epochs
abbrev pub PermitsEndOnce : Setup → Fleet → Type 0
PermitsEndOnce setup f = (es : List FleetEvent) (permit : ℕ) → AllFleetFit setup f es → restarts_ended permit es f ≤ 1

-- A present order has had its effect on the cell, and its answer is outstanding.
pub record IsAheadAt (f : Fleet) (s v : ℕ) : Type 0 where
  pub order : Order
  pub present : order_of (controller f).base (controller f).w order.stream ≡ Some order
  pub shard : order.call.shard ≡ s
  pub server : order.call.server ≡ v
  pub last : ((f.servers v).slots s).last ≡ order.number
  pub led : led_to order.call.call (cell_above (controller f).base ((controller f).w.place.cells s v))
      ≡ Some ((f.servers v).slots s).cell

-- Each cell of a server that has its slots is as recorded, or one call further.
abbrev pub ServersAreNear : Setup → Fleet → Type 0
ServersAreNear setup f = (s v : ℕ) → has_lost f v ≡ false →
    (((f.servers v).slots s).cell ≡ cell_above (controller f).base ((controller f).w.place.cells s v)) ⊎ IsAheadAt f s v

-- If no present order is the last one that its server has served, each server that has its slots has what is recorded.
abbrev pub ServersAreRecorded : Setup → Fleet → Type 0
ServersAreRecorded setup f =
    ((o : Order) → order_of (controller f).base (controller f).w o.stream ≡ Some o
    → ((f.servers o.call.server).slots o.call.shard).last ≢ o.number) →
    (s v : ℕ) → has_lost f v ≡ false
    → ((f.servers v).slots s).cell ≡ cell_above (controller f).base ((controller f).w.place.cells s v)

-- once all plans of the epoch are done, the servers that have their slots have the end of its plans in the order of
-- their starts
abbrev pub ServersAreAtEnds : Setup → Fleet → Type 0
ServersAreAtEnds setup f = AreDone (controller f).w → (s v : ℕ) → has_lost f v ≡ false →
    ((f.servers v).slots s).cell ≡
    cell_above (controller f).base ((ends_of (controller f).w.sizes (map (λ x. x.plan) (controller f).w.plans) (controller f).w.opening).cells s v)

-- what the map shows of a shard never goes back, whatever comes
abbrev pub MapNeverGoesBack : Type 0
MapNeverGoesBack = (f : Fleet) (es : List FleetEvent) (s : ℕ) →
    ((f.shown s).version ≤ ((fleet_run es f).shown s).version)
    × ((f.shown s).version ≡ ((fleet_run es f).shown s).version → f.shown s ≡ (fleet_run es f).shown s)

-- the shown server, if any, serves the shard, or forwards to the one that does
abbrev pub MapIsRight : Setup → Fleet → Type 0
MapIsRight setup f = (s u : ℕ) → (f.shown s).server ≡ Some u →
    IsServing (held_place f) s u ⊎ ((v number : ℕ) × (held_cells f s u ≡ Forwarding v number)
    × IsServing (held_place f) s v)

-- each server that an unfinished plan names has its slots
abbrev pub AreNamedKnown : Fleet → Type 0
AreNamedKnown f = (id : StreamId) (v : ℕ) → is_begun (controller f).w id ≡ true → engages (controller f).w v id ≡ true
    → has_lost f v ≡ false

-- A new owner waits for the cut of the old one, which has its slots, forwards to the new one and knows the cut.
pub record TellsCut (f : Fleet) (l : Letter) : Type 0 where
  pub owner : ℕ
  pub number : ℕ
  pub cut : ℕ
  pub prepared : (slot_for f l).cell ≡ Prepared owner number
  pub known : has_lost f owner ≡ false
  pub forwards : ((f.servers owner).slots l.order.call.shard).cell ≡ Forwarding l.order.call.server number
  pub told : ((f.servers owner).slots l.order.call.shard).cut ≡ Some cut

-- the work of an order can be done once some writes are applied; or that of a new owner once it hears the cut, too
abbrev pub CanBeDone : Fleet → Letter → Type 0
CanBeDone f l = ((at : ℕ) × (is_done l.order.call.call (slot_for f l).cell (slot_for f l).cut at ≡ true)) ⊎ TellsCut f l

-- The order of a stream is heard when it comes. If it has not had its effect, its work can be done, and is committed
-- once it is begun and done; and once it is answered, the stream moves on.
pub record GoesByOrder (f : Fleet) (id : StreamId) : Type 0 where
  pub letter : Letter
  pub present : letter_of (controller f) id ≡ Some letter
  pub heard : (verdict_of f letter ≡ verdict.Begin)
      ⊎ ((verdict_of f letter ≡ verdict.Working) ⊎ (verdict_of f letter ≡ verdict.Again))
  pub done : verdict_of f letter ≢ verdict.Again → CanBeDone f letter
  pub commits : (at : ℕ) → is_done letter.order.call.call (slot_for f letter).cell (slot_for f letter).cut at ≡ true
      → verdict_of f letter ≢ verdict.Again →
      IsSome (committed (f.servers letter.order.call.server).base (begun_slot (slot_for f letter) (order_read letter)) (order_read letter) at)
  pub answered : HasMovedOn (controller f).w id (entry_recorded (controller f) (Answered letter.order)).w

-- The publication of a stream is taken or answered when it comes, and once it is answered the stream moves on.
pub record GoesByPublication (f : Fleet) (id : StreamId) : Type 0 where
  pub notice : Notice
  pub present : notice_of (controller f) id ≡ Some notice
  pub heard : (owner_verdict f notice ≡ verdict.Begin) ⊎ (owner_verdict f notice ≡ verdict.Again)
  pub answered : HasMovedOn (controller f).w id (entry_recorded (controller f) (Stored notice.publication)).w

-- the stream can go on: by a local step, by its order or by its publication
abbrev pub FleetGoesOn : Fleet → StreamId → Type 0
FleetGoesOn f id =
    HasMovedOn (controller f).w id (entry_recorded (controller f) (Made (Step id))).w
    ⊎ (GoesByOrder f id ⊎ GoesByPublication f id)

-- if each server that unfinished plans name has its slots, some stream of each such plan can go on
abbrev pub SomeFleetCanGoOn : Setup → Fleet → Type 0
SomeFleetCanGoOn setup f = AreNamedKnown f → (k : ℕ) → k < length (controller f).w.plans
    → is_unfinished (controller f).w k ≡ true →
    (i : ℕ) × (i < stream_count (controller f).w k) × (((controller f).w.progress k i).done ≡ false)
    × FleetGoesOn f (stream_id k i)

-- If each server that unfinished plans name has its slots, events can lead on until all plans are done, whatever is
-- under way or was lost.
abbrev pub FleetCanFinish : Setup → Fleet → Type 0
FleetCanFinish setup f = AreNamedKnown f →
    (es : List FleetEvent) × AllFleetFit setup f es × AreDone (controller (fleet_run es f)).w
