-- The laws of the network with the map's owner, behind their premises.
use Rattle.std.specs.Prelude.{◌≡◌, ◌≢◌, ◌≤◌, ◌<◌, ℕ, ◌+◌, ◌⊎◌, false, true, Some, List, [], ◌∷◌, length, map}
pub use Rattle.laws_network.specs.Laws.{AllByRecursion, AreDone, HasMovedOn, IsOpening, IsAdvance, IsNetOpening}
pub use Rattle.laws_network.specs.Laws.{IsNetReached, IsServing, NetFits, Setup, is_unfinished, reopened, round_trip}
pub use Rattle.laws_network.specs.Laws.{sizes_of, stream_count, stream_id}
pub use Rattle.laws_network.specs.Words.{Place, Sizes, progress_of}
pub use Rattle.laws_network.specs.Net.{real}
pub use Rattle.sm_server.specs.declared.call.Cell.TheVariants.{Forwarding}
use Rattle.laws_network.specs.World.{Control, Inner, NetEvent, NetOutcome, Propose, Quiet, Publication, Step, Store}
use Rattle.laws_network.specs.World.{Stored, StreamId, World, WorldEvent, comes, publication_of, world_comes, world_run}

-- what the controller makes by itself names known servers, and plans that were checked
abbrev pub WorldFits : Sizes → WorldEvent → Type 0
WorldFits c (Inner e) = NetFits c e
WorldFits c _ = Unit {0}

-- each of these events is so
abbrev pub AllWorldFit : Sizes → List WorldEvent → Type 0
AllWorldFit c es = AllByRecursion (WorldFits c) es

-- publications are old: none has a higher version than is shown of its shard
abbrev pub AreStale : World → List Publication → Type 0
AreStale x ps = AllByRecursion (λ p. p.entry.version ≤ (x.shown p.shard).version) ps

-- A controller opens on what the servers have and the map shows. Publications of earlier controllers, and their
-- answers, still may come, and are old.
pub record IsWorldOpening (setup : Setup) (x : World) : Type 0 where
  pub net : IsNetOpening setup x.net
  pub servers : (s : ℕ) → (x.shown s).server ≡ x.net.w.place.listed s
  pub versions : (s : ℕ) → (x.shown s).version ≤ x.net.base + x.net.w.place.version s
  pub published : AreStale x x.published
  pub stored : AreStale x x.stored

-- events lead from an opening to this
pub record IsWorldReached (setup : Setup) (x : World) : Type 0 where
  pub start : World
  pub opening : IsWorldOpening setup start
  pub events : List WorldEvent
  pub fit : AllWorldFit (sizes_of setup) events
  pub state : x ≡ world_run events start

-- so it is wherever events lead
abbrev pub EachWorld : (Setup → World → Type 0) → Type 0
EachWorld P = (setup : Setup) (x : World) → IsWorldReached setup x → P setup x

-- Events of the network lead to what controller and servers have come to; among them a publication is a step of the
-- controller's own. So all laws of the network hold of controller and servers.
abbrev pub NetIsReached : Setup → World → Type 0
NetIsReached setup x = IsNetReached setup x.net

-- this comes of an event of the network
abbrev pub IsOfNet : World → WorldEvent → NetOutcome × World → Type 0
IsOfNet x e o = (d : NetEvent) × ((c : Sizes) → WorldFits c e → NetFits c d) × (o.0 ≡ (comes x.net d).0)
    × (o.1.net ≡ (comes x.net d).1)

-- Whatever comes leaves controller and servers as they are, or is what one event of the network does with them: so what
-- the laws of the network say of its events holds of these.
abbrev pub FollowsNet : Type 0
FollowsNet = (x : World) (e : WorldEvent)
    → (((world_comes x e).0 ≡ Quiet) × ((world_comes x e).1.net ≡ x.net)) ⊎ IsOfNet x e (world_comes x e)

-- what is shown of a shard never goes back, whatever comes
abbrev pub ShownNeverGoesBack : Type 0
ShownNeverGoesBack = (x : World) (es : List WorldEvent) (s : ℕ) →
    ((x.shown s).version ≤ ((world_run es x).shown s).version)
    × ((x.shown s).version ≡ ((world_run es x).shown s).version → x.shown s ≡ (world_run es x).shown s)

-- the shown server, if any, serves the shard at the real servers, or forwards there to the one that does
abbrev pub ShownIsRight : Setup → World → Type 0
ShownIsRight setup x = (s u : ℕ) → (x.shown s).server ≡ Some u →
    IsServing (real x.net) s u ⊎ ((v number : ℕ) × (x.net.cells s u ≡ Forwarding v number) × IsServing (real x.net) s v)

-- The map shows what is recorded: the listed server. Its version is the recorded one above the base if this controller
-- has published, otherwise what was shown when it opened.
pub record IsAsRecorded (x : World) (s : ℕ) : Type 0 where
  pub server : (x.shown s).server ≡ x.net.w.place.listed s
  pub version : (x.shown s).version ≤ x.net.base + x.net.w.place.version s
  pub exact : x.net.w.place.version s ≢ x.net.w.opening.version s
      → (x.shown s).version ≡ x.net.base + x.net.w.place.version s

-- The publication of a stream has had its effect on the shard's entry, and its answer is outstanding: what is shown is
-- one version ahead.
pub record IsNewer (x : World) (s : ℕ) : Type 0 where
  pub publication : Publication
  pub current : publication_of x.net.base x.net.w publication.stream ≡ Some publication
  pub shard : publication.shard ≡ s
  pub entry : x.shown s ≡ publication.entry

-- each entry is as it is recorded, or one publication further
abbrev pub ShownIsNear : Setup → World → Type 0
ShownIsNear setup x = (s : ℕ) → IsAsRecorded x s ⊎ IsNewer x s

-- if no stream's publication has had its effect, the map shows what is recorded
abbrev pub ShownIsRecorded : Setup → World → Type 0
ShownIsRecorded setup x =
    ((id : StreamId) (p : Publication) → publication_of x.net.base x.net.w id ≡ Some p → x.shown p.shard ≢ p.entry)
    → (s : ℕ) → IsAsRecorded x s

-- ---- onward

-- a stream's publication makes a round trip
abbrev pub map_trip : World → StreamId → List WorldEvent
map_trip x id = Propose id ∷ Store (length x.published) ∷ Stored (length x.stored) ∷ []

-- The stream can go on: the controller can make its next step by itself, or a round trip of its order takes it past its
-- call, or one of its publication past that.
abbrev pub CanGoOnward : World → StreamId → Type 0
CanGoOnward x id =
    HasMovedOn x.net.w id (world_run (Inner (Control (Step id)) ∷ []) x).net.w
    ⊎ (HasMovedOn x.net.w id (world_run (map Inner (round_trip x.net id)) x).net.w
    ⊎ HasMovedOn x.net.w id (world_run (map_trip x id) x).net.w)

-- of each plan that isn't done some stream can go on
abbrev pub SomeCanGoOnward : Setup → World → Type 0
SomeCanGoOnward setup x = (k : ℕ) → k < length x.net.w.plans → is_unfinished x.net.w k ≡ true →
    (i : ℕ) × (i < stream_count x.net.w k) × ((x.net.w.progress k i).done ≡ false) × CanGoOnward x (stream_id k i)

-- the event is a step of a stream, or one of an order, a publication or an answer
abbrev pub IsWorldMove : WorldEvent → Type 0
IsWorldMove (Inner e) = IsAdvance e
IsWorldMove _ = Unit {0}

-- wherever events lead, such events can lead on until all plans are done
abbrev pub CanFinishOnward : Setup → World → Type 0
CanFinishOnward setup x = (es : List WorldEvent) × AllByRecursion IsWorldMove es × AreDone (world_run es x).net.w

-- ---- another controller

-- another controller opens on what the servers have and the map shows
abbrev pub reopened_world : World → Sizes → Place → ℕ → World
reopened_world x c place room = record x { net = reopened x.net c place room }

-- once all plans are done, another one can open on a placement with the servers' cells and the map's listings, whose
-- versions are no lower than those of the opening before, while all orders, publications, answers and passes of this
-- one still may come
abbrev pub CanReopenOnward : Setup → World → Type 0
CanReopenOnward setup x = AreDone x.net.w → (place : Place) (room : ℕ) → IsOpening setup place room
    → ((s v : ℕ) → x.net.cells s v ≡ place.cells s v) →
    ((s : ℕ) → (x.shown s).server ≡ place.listed s) → ((s : ℕ) → x.net.w.opening.version s ≤ place.version s)
    → IsWorldOpening setup (reopened_world x (sizes_of setup) place room)
