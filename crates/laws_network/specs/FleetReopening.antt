-- From the whole fleet to a reopening, which can begin wherever the fleet leads; and from what a reopening has settled
-- to the fleet.
use Rattle.std.specs.Prelude.{◌≡◌, ◌≤◌, ◌<◌, ◌⊎◌, ℕ, suc, pred, ◌&&◌, Bool, true, false, not, is_none, Option, Some}
use Rattle.std.specs.Prelude.{None, List, [], length, map, slice_get, slice_index_or, if◌then◌else◌}
use Rattle.sm_agent.specs.declared.base.Base.{Base as AgentBase}
use Rattle.sm_agent.specs.declared.base.Reopening.{Reopening as AgentReopening}
use Rattle.sm_agent.specs.declared.base.Settlement.{Settlement as AgentSettlement}
use Rattle.sm_agent.specs.declared.base.Restoration.{Restoration}
use Rattle.sm_agent.specs.declared.base.Reception.{Reception}
use Rattle.sm_agent.specs.declared.base.Reception.TheVariants.{Taken, Again, Ignored}
use Rattle.sm_agent.specs.declared.order.Stamp.{Stamp}
use Rattle.sm_agent.specs.declared.slot.Slot.{Slot}
use Rattle.sm_agent.specs.declared.request.Request.{Request}
use Rattle.sm_agent.specs.declared.request.Routing.TheVariants.{Execute, PassOn}
use Rattle.sm_agent.specs.Base.{fenced, heeded, restored, settled}
use Rattle.sm_agent.specs.Order.{cell_load, turned_away}
use Rattle.sm_agent.specs.Request.{routed}
use Rattle.laws_network.specs.Words.{AllByRecursion, Setup, Ticket, opened, sizes_of}
use Rattle.laws_network.specs.World.{World}
use Rattle.laws_network.specs.Controller.{Restore as ServerRestore}
use Rattle.laws_network.specs.Fleet.{Fleet, Handoff, controller, has_lost}
use Rattle.laws_network.specs.FleetLaws.{ArePermits, HasAskedUnder, IsFleetOpening, real_cells}
use Rattle.laws_network.specs.Reopening.{Base, MapOwner, Message, Party, Restore, Server, Settlement, Settling}
use Rattle.laws_network.specs.Reopening.{after_fence, is_fenced_at, is_handing, is_settled_at, names_nonce}
use Rattle.laws_network.specs.Reopening.{settled_base, takes_number, takes_settle, unknown_base}
use Rattle.laws_network.specs.ReopeningLaws.{AllTook, IsOutset, no_reopening}

-- a base, but for its journal; a server that has lost its slots stands at no number
abbrev pub base_by : AgentBase → Option ℕ → Base
base_by base None = record { number = base.number; fenced = base.fenced; nonce = None }
base_by base (Some nonce) = unknown_base nonce

-- of each party
abbrev pub bases_of : Fleet → Party → Base
bases_of f (Server v) = base_by (f.servers v).base (f.servers v).base.nonce
bases_of f MapOwner = base_by f.owner f.owner.nonce

-- the last numbers of slots; a server that has lost its slots has none
abbrev pub real_lasts : Fleet → ℕ → ℕ → ℕ
real_lasts f s v = if has_lost f v then 0 else ((f.servers v).slots s).last

-- a restore is to the server that asked under its nonce
abbrev pub restore_seen : Fleet → ServerRestore → Message
restore_seen f r = Restore (slice_index_or f.asks (pred r.restoration.nonce) 0) r.restoration.nonce r.restoration.number (controller f).w.sizes r.cells

-- servers and the map's owner as the fleet has them, beside a world that has what was sent and the record
abbrev pub settling_of : Fleet → World → Settling
settling_of f w = record {
  world = record w { net = record w.net { cells = real_cells f; last = real_lasts f } };
  bases = bases_of f;
  sizes = λ v. (controller f).w.sizes;
  nonces = suc (length f.asks);
  messages = map (restore_seen f) (controller f).restores;
  reopening = no_reopening (controller f).w.sizes.servers;
}

-- it is one of these
abbrev pub IsOneOf : {A : Type 0} → List A → A → Type 0
IsOneOf xs y = (k : ℕ) × (slice_get xs k ≡ Some y)

-- a request that was passed on, as the network has it
abbrev pub pass_seen : Handoff → Ticket
pass_seen h = record { place = 0; shard = h.shard; sender = h.pass.from; target = h.target; number = h.pass.handover }

-- A reopening can begin over the fleet as it stands: over a world that has what the controller has recorded, what the
-- map shows, and all that was sent.
pub record FleetCanReopen (setup : Setup) (f : Fleet) : Type 0 where
  pub world : World
  pub record_is : world.net.w ≡ (controller f).w
  pub base : world.net.base ≡ (controller f).base
  pub shown : world.shown ≡ f.shown
  pub sent : AllByRecursion (λ l. IsOneOf world.net.sent l.order) f.sent
  pub answers : AllByRecursion (IsOneOf world.net.answers) f.answers
  pub passes : AllByRecursion (λ h. IsOneOf world.net.passes (pass_seen h)) f.passes
  pub published : AllByRecursion (λ n. IsOneOf world.published n.publication) f.published
  pub stored : AllByRecursion (IsOneOf world.stored) f.stored
  pub outset : IsOutset setup (settling_of f world)

-- ---- afterwards

-- what a party has that has taken its part
abbrev pub agent_settled : ℕ → ℕ → AgentBase
agent_settled journal number = record { journal = journal; number = number; fenced = false; nonce = None }

-- a server of the fleet has its slots as it has taken them
pub record IsSettledServer (x : Settling) (s : Settlement) (f : Fleet) (v : ℕ) : Type 0 where
  pub taken : x.bases (Server v) ≡ settled_base x.reopening.base
  pub base : (f.servers v).base ≡ agent_settled f.start.journal x.reopening.base
  pub cells : (k : ℕ) → ((f.servers v).slots k).cell ≡ x.world.net.cells k v
  pub lasts : (k : ℕ) → ((f.servers v).slots k).last ≡ x.world.net.last k v
  pub loads : (k : ℕ) → ((f.servers v).slots k).load
      ≡ cell_load ((f.servers v).slots k).cell ((sizes_of s.setup).load k)

-- A number that is no server's has what the placement says of it, which is nothing.
pub record IsNoServer (x : Settling) (s : Settlement) (f : Fleet) (v : ℕ) : Type 0 where
  pub base : (f.servers v).base ≡ agent_settled f.start.journal x.reopening.base
  pub cells : (k : ℕ) → ((f.servers v).slots k).cell ≡ s.place.cells k v
  pub lasts : (k : ℕ) → ((f.servers v).slots k).last ≤ x.reopening.base
  pub loads : (k : ℕ) → ((f.servers v).slots k).load
      ≡ cell_load ((f.servers v).slots k).cell ((sizes_of s.setup).load k)

-- The controller opens on this fleet: the number of the reopening is its base, and orders that were sent before may
-- still come. A server that has not taken its part has lost its slots: it turns Unknown by the next message, and counts
-- with what a restore will bring it.
pub record IsFleetInForce (x : Settling) (s : Settlement) (f : Fleet) : Type 0 where
  pub journal : f.journal ≡ []
  pub record_is : f.start.w ≡ opened (sizes_of s.setup) s.place s.room
  pub base : f.start.base ≡ x.reopening.base
  pub fence : f.start.fence ≡ x.reopening.base
  pub restores : f.start.restores ≡ []
  pub permits : ArePermits f.start
  pub known : (v : ℕ) → v < x.reopening.servers → has_lost f v ≡ false → IsSettledServer x s f v
  pub others : (v : ℕ) → x.reopening.servers ≤ v → IsNoServer x s f v
  pub had : (k v : ℕ) → has_lost f v ≡ true → f.had k v ≡ s.place.cells k v
  pub nonces : (v nonce : ℕ) → (f.servers v).base.nonce ≡ Some nonce → HasAskedUnder f.asks v nonce
  pub owner : f.owner ≡ agent_settled f.start.journal x.reopening.base
  pub shown : f.shown ≡ x.world.shown
  pub sent : AllByRecursion (λ l. IsOneOf x.world.net.sent l.order) f.sent
  pub answers : AllByRecursion (IsOneOf x.world.net.answers) f.answers
  pub passes : AllByRecursion (λ h. IsOneOf x.world.net.passes (pass_seen h)) f.passes
  pub published : AllByRecursion (λ n. IsOneOf x.world.published n.publication) f.published
  pub stored : AllByRecursion (IsOneOf x.world.stored) f.stored

-- once a settlement is in force, the fleet opens on it: so all laws of the fleet hold from there on
abbrev pub FleetOpensInForce : Settling → Type 0
FleetOpensInForce x = (s : Settlement) (f : Fleet) → x.reopening.settlement ≡ Some s → AllTook x.reopening →
    IsFleetInForce x s f → IsFleetOpening s.setup f

-- ---- what agents do

-- a base, but for its journal
abbrev pub base_seen : AgentBase → Base
base_seen base = record { number = base.number; fenced = base.fenced; nonce = base.nonce }

-- the base once something has come
abbrev pub base_after : AgentBase → Reception → AgentBase
base_after base (Taken new) = new
base_after base _ = base

-- it is answered
abbrev pub is_answered : Reception → Bool
is_answered Ignored = false
is_answered _ = true

-- An agent does what a party does here, journals aside: it takes no settle and no restore, looks at no order and
-- replies to no request that a party would not. If an agent turns Unknown by what a message says, a party forgets.
pub record AgentsDoSo : Type 0 where
  pub fence : (base : AgentBase) (at : AgentReopening) (nonce : ℕ) →
      (base_seen (base_after base (fenced base at nonce)) ≡ after_fence (base_seen base) at.number nonce)
      × (is_answered (fenced base at nonce) ≡ true
      → is_fenced_at at.number (after_fence (base_seen base) at.number nonce) ≡ true)
  pub settle : (base new : AgentBase) (s : AgentSettlement) → settled base s ≡ Taken new →
      (takes_settle s.reopening.number s.nonce (base_seen base) ≡ true)
      × (base_seen new ≡ settled_base s.reopening.number)
  pub settle_again : (base : AgentBase) (s : AgentSettlement) → settled base s ≡ Again
      → is_settled_at s.reopening.number (base_seen base) ≡ true
  pub restore : (base new : AgentBase) (r : Restoration) → restored base r ≡ Taken new
      → (names_nonce base.nonce (Some r.nonce) ≡ true) × (base_seen new ≡ settled_base r.number)
  pub heed : (base : AgentBase) (last : AgentReopening) (nonce : ℕ)
      → (heeded base last nonce ≡ base) ⊎ (base_seen (heeded base last nonce) ≡ unknown_base nonce)
  pub order : (base : AgentBase) (stamp : Stamp) → turned_away base stamp ≡ None
      → takes_number (base_seen base) stamp.number ≡ true
  pub execute : (base : AgentBase) (slot : Slot) (applied : ℕ) (request : Request)
      → routed base slot applied request ≡ Execute →
      (is_none base.nonce && not (base.fenced && is_handing slot.cell)) ≡ true
  pub pass_on : (base : AgentBase) (slot : Slot) (applied : ℕ) (request : Request) (to handover cut : ℕ)
      → routed base slot applied request ≡ PassOn to handover cut →
      (is_none base.nonce && not (base.fenced && is_handing slot.cell)) ≡ true
