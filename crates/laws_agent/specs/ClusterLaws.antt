-- The laws of agents in a reopening: what they do, the model of reopenings does, message by message. So at most one of
-- them executes.
use Rattle.std.specs.Prelude.{◌≡◌, ◌≤◌, ◌<◌, ◌⊎◌, ℕ, suc, ◌*◌, Bool, false, Some, None, List, [], ◌∷◌, length, map}
use Rattle.sm_server.specs.declared.call.Cell.TheVariants.{Forwarding}
use Rattle.sm_agent.specs.declared.request.Routing.TheVariants.{Execute}
use Rattle.sm_plan_code.specs.declared.limits.TheConstants.{MOST_PLACES}
use Rattle.laws_network.specs.Words.{AllByRecursion, IsOpening, Place, Setup, Sizes}
use Rattle.laws_network.specs.World.{World}
use Rattle.laws_network.specs.Controller.{Restore as ServerRestore}
use Rattle.laws_network.specs.Fleet.{Committed, Fleet, Routed, controller}
use Rattle.laws_network.specs.FleetLaws.{IsFleetReached, real_cells, world_of}
use Rattle.laws_network.specs.FleetReopening.{IsOneOf, base_seen, pass_seen, real_lasts, restore_seen}
use Rattle.laws_network.specs.Net.{Deliver, Order, Served}
use Rattle.laws_network.specs.Reopening.{Comes, Confirm, Entry, Inner, Reopen, Settlement, Settling, SettlingEvent}
use Rattle.laws_network.specs.Reopening.{settling_comes, settling_run}
use Rattle.laws_network.specs.ReopeningLaws.{AllSettlingFit, AllTook, Executes, IsOutset, IsSettlingReached, MayReopen}
use Rattle.laws_network.specs.ReopeningLaws.{MaySettle, no_reopening}
use Rattle.laws_agent.specs.Cluster.{Cluster, ClusterEvent, Envelope, Notes, base_kept, cluster_comes, cluster_run}
use Rattle.laws_agent.specs.Cluster.{entry_noted}

-- ---- what a cluster stands for

-- The cluster as the model of reopenings has it: bases without their journals, cells and last numbers of servers that
-- have their slots, messages without their senders. What was sent and the record are those of a world, and the model
-- says which sizes each server was told.
abbrev pub seen : Cluster → World → (ℕ → Sizes) → Settling
seen c w sizes = record {
  world = record w { net = record w.net { cells = real_cells c.fleet; last = real_lasts c.fleet }; shown = c.fleet.shown };
  bases = λ p. base_seen (base_kept c.fleet p);
  sizes = sizes;
  nonces = c.nonces;
  messages = map (λ e. e.message) c.messages;
  reopening = c.reopening;
}

-- A world has what the fleet's controller has recorded, and all that was sent.
pub record IsBeside (f : Fleet) (w : World) : Type 0 where
  pub record_is : w.net.w ≡ (controller f).w
  pub base : w.net.base ≡ (controller f).base
  pub sent : AllByRecursion (λ l. IsOneOf w.net.sent l.order) f.sent
  pub answers : AllByRecursion (IsOneOf w.net.answers) f.answers
  pub passes : AllByRecursion (λ h. IsOneOf w.net.passes (pass_seen h)) f.passes
  pub published : AllByRecursion (λ n. IsOneOf w.published n.publication) f.published
  pub stored : AllByRecursion (IsOneOf w.stored) f.stored

-- the cluster stands for a state of the model
pub record StandsFor (c : Cluster) (x : Settling) : Type 0 where
  pub same : x ≡ seen c x.world x.sizes
  pub beside : IsBeside c.fleet x.world

-- ---- what may come

-- the cluster with what it has sent and recorded, and no more
abbrev pub seen_alone : Cluster → Settling
seen_alone c = seen c (world_of c.fleet (λ s v. 0)) (λ v. (controller c.fleet).w.sizes)

-- what the controller begins or confirms is what it may; it records answers only as they come
abbrev pub MayNote : Cluster → Entry → Type 0
MayNote c (Reopen base servers lost) = MayReopen (seen_alone c) base lost
MayNote c (Confirm s) = MaySettle c.reopening (controller c.fleet).w s
MayNote c _ = ⊥

-- of the servers nothing is asked
abbrev pub ClusterFits : Cluster → ClusterEvent → Type 0
ClusterFits c (Notes journal fence entry) = MayNote c entry
ClusterFits c _ = Unit {0}

-- each of these events is so when it comes
abbrev pub AllClusterFit : List ClusterEvent → Cluster → Type 0
AllClusterFit [] c = Unit {0}
AllClusterFit (e ∷ es) c = ClusterFits c e × AllClusterFit es (cluster_comes c e).1

-- ---- laws

-- The model takes steps of its own that fit, after which the cluster stands for it again. What an agent executes or
-- commits, the model does.
pub record IsSimulated (c : Cluster) (x : Settling) (e : ClusterEvent) : Type 0 where
  pub events : List SettlingEvent
  pub fit : AllSettlingFit events x
  pub stands : StandsFor (cluster_comes c e).1 (settling_run events x)
  pub executes : (s v : ℕ) → (cluster_comes c e).0 ≡ Routed s v Execute → Executes x s v
  pub commits : (o : Order) → (cluster_comes c e).0 ≡ Committed o →
      (k : ℕ) × (events ≡ Comes (Inner (Deliver k)) ∷ [])
      × ((settling_comes x (Comes (Inner (Deliver k)))).0 ≡ Served o)

-- whatever comes to a cluster that stands for a state to which events lead
abbrev pub AgentsAreSimulated : Type 0
AgentsAreSimulated = (setup : Setup) (x : Settling) (c : Cluster) (e : ClusterEvent) →
    IsSettlingReached setup x → StandsFor c x → ClusterFits c e → IsSimulated c x e

-- ---- where a reopening begins, and what holds from there on

-- a restore that the fleet's controller has given
abbrev pub restore_sent : Fleet → ServerRestore → Envelope
restore_sent f r = record { journal = r.restoration.journal; fence = r.restoration.fence; message = restore_seen f r }

-- the servers of a fleet, over which a reopening is to begin
abbrev pub cluster_of : Fleet → Cluster
cluster_of f = record {
  fleet = f;
  nonces = suc (length f.asks);
  messages = map (restore_sent f) (controller f).restores;
  reopening = no_reopening (controller f).w.sizes.servers;
}

-- no server that is Unknown stands above the base of the fleet's controller
abbrev pub AreUnknownLow : Fleet → Type 0
AreUnknownLow f = (v nonce : ℕ) → (f.servers v).base.nonce ≡ Some nonce
    → (f.servers v).base.number ≤ (controller f).base

-- The servers of each fleet to which events lead stand for a state over which a reopening may begin.
abbrev pub ClustersOpen : Type 0
ClustersOpen = (setup : Setup) (f : Fleet) → IsFleetReached setup f → AreUnknownLow f →
    (x : Settling) × IsOutset setup x × StandsFor (cluster_of f) x

-- A reopening has begun over such a fleet, and events lead on to this.
pub record IsClusterReached (setup : Setup) (c : Cluster) : Type 0 where
  pub fleet : Fleet
  pub reached : IsFleetReached setup fleet
  pub low : AreUnknownLow fleet
  pub journal : ℕ
  pub fence : ℕ
  pub base : ℕ
  pub servers : ℕ
  pub lost : ℕ → Bool
  pub begun : MayReopen (seen_alone (cluster_of fleet)) base lost
  pub events : List ClusterEvent
  pub fit : AllClusterFit events (entry_noted (cluster_of fleet) journal fence (Reopen base servers lost))
  pub state : c ≡ cluster_run events (entry_noted (cluster_of fleet) journal fence (Reopen base servers lost))

-- so it is wherever events lead
abbrev pub EachCluster : (Setup → Cluster → Type 0) → Type 0
EachCluster P = (setup : Setup) (c : Cluster) → IsClusterReached setup c → P setup c

-- Over each placement on which a controller can open there are such servers, with these cells, and a reopening of each
-- number that is high enough can begin over them.
abbrev pub ClustersAreReached : Type 0
ClustersAreReached = (setup : Setup) (p : Place) (room base servers : ℕ) → IsOpening setup p room
    → 2 * MOST_PLACES ≤ base → ((s : ℕ) → p.version s < base) →
    (c : Cluster) × IsClusterReached setup c × ((s v : ℕ) → ((c.fleet.servers v).slots s).cell ≡ p.cells s v)

-- The cluster stands for a state to which events of the model lead: so what the laws of a reopening say of cells,
-- bases, messages and the map they say of its agents.
abbrev pub StandsForReached : Setup → Cluster → Type 0
StandsForReached setup c = (x : Settling) × IsSettlingReached setup x × StandsFor c x

-- an agent executes a request for the shard, direct or passed on however long ago, if it comes now
abbrev pub AgentExecutes : Cluster → ℕ → ℕ → Type 0
AgentExecutes c s v = (e : ClusterEvent) × ((cluster_comes c e).0 ≡ Routed s v Execute)

-- At most one agent executes requests of a shard, and it has its slots. The agent that the map shows is that one, or
-- forwards to it, if neither it nor the map's owner is fenced.
pub record OneAgentExecutes (setup : Setup) (c : Cluster) : Type 0 where
  pub one : (s u v : ℕ) → AgentExecutes c s u → AgentExecutes c s v → u ≡ v
  pub known : (s v : ℕ) → AgentExecutes c s v → (c.fleet.servers v).base.nonce ≡ None
  pub shown : (s u v : ℕ) → (c.fleet.shown s).server ≡ Some u → c.fleet.owner.fenced ≡ false →
      (c.fleet.servers u).base.nonce ≡ None → (c.fleet.servers u).base.fenced ≡ false → AgentExecutes c s v →
      (u ≡ v) ⊎ ((number : ℕ) × (((c.fleet.servers u).slots s).cell ≡ Forwarding v number))

-- once all have taken a settlement, each agent that has its slots has its cells of the settlement
abbrev pub HaveSettlement : Setup → Cluster → Type 0
HaveSettlement setup c = (s : Settlement) → c.reopening.settlement ≡ Some s → AllTook c.reopening →
    (k v : ℕ) → (c.fleet.servers v).base.nonce ≡ None → ((c.fleet.servers v).slots k).cell ≡ s.place.cells k v
