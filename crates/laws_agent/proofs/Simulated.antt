-- Whatever comes to a cluster, the model of reopenings does.
use Rattle.std.proofs.Common.{◌≡◌, ℕ, refl, sym, subst, Option, Some, None}
use Rattle.std.specs.Prelude.{slice_get}
use Rattle.sm_agent.specs.declared.request.Request.TheVariants.{Passed}
use Rattle.laws_network.specs.Words.{Sizes}
use Rattle.laws_network.specs.World.{World}
use Rattle.laws_network.specs.Controller.{Letter, Notice}
use Rattle.laws_network.specs.Fleet.{Abandon, Commit, End, Fleet, FleetEvent, Forget, Handoff, HearAsk, HearOwner, HearServer, Judge, Make, Open, Publish, Receive, Recover, Seal, SendOrder, SendPublication, Serve, Silent, after_commit, after_letter, after_notice, after_request, after_seal, by_message}
use Rattle.laws_network.specs.FleetReopening.{AgentsDoSo, IsOneOf, pass_seen}
use Rattle.laws_network.specs.Reopening.{Fence, Fenced, Message, Restore, Settle, Settled, Settling}
use Rattle.laws_network.specs.ReopeningLaws.{EachSettling, RefusesNone}
use Rattle.laws_network.proofs.Lists.{all_at}
use Rattle.laws_agent.specs.Cluster.{Cluster, ClusterEvent, Envelope, Handles, Learns, Loses, Notes, Receives, cluster_comes, in_fleet, received_at, received_by}
use Rattle.laws_agent.specs.ClusterLaws.{AgentsAreSimulated, ClusterFits, IsBeside, IsSimulated, seen}
use Rattle.laws_agent.proofs.Assigning.{restore_comes_there, settle_comes_there, told_comes_there, took_comes_there}
use Rattle.laws_agent.proofs.Fencing.{fence_comes_there}
use Rattle.laws_agent.proofs.Handling.{Follows, abandons, commits, hears_cut, judges, publishes, quietly, silent}
use Rattle.laws_agent.proofs.Losing.{learns_there, loses_there, notes_there}
use Rattle.laws_agent.proofs.Requests.{asks_client, asks_passed}
use Rattle.laws_agent.proofs.Standing.{Leads, no_step}

module _ (does : AgentsDoSo) (c : Cluster) (w : World) (z : ℕ → Sizes) (b : IsBeside c.fleet w) (refuses : RefusesNone (seen c w z)) where
  abbrev f : Fleet
  f = c.fleet

  abbrev x : Settling
  x = seen c w z

  nothing : Follows x (Silent, c)
  nothing = quietly x c Silent silent (no_step c w z b)

  -- a message comes
  by_kind : (k : ℕ) (applied : ℕ → ℕ) (e : Envelope) → slice_get c.messages k ≡ Some e → (m : Message) → e.message ≡ m → Leads (received_by c applied e m) x
  by_kind k applied e got (Fence p number) is = fence_comes_there does c w z b k applied e got p number is
  by_kind k applied e got (Settle p number nonce s) is = settle_comes_there does c w z b k applied e got p number nonce s is
  by_kind k applied e got (Restore v nonce number sizes cells) is = restore_comes_there does c w z b k applied e got v nonce number sizes cells is
  by_kind k applied e got (Fenced p number inventory) is = told_comes_there does c w z b k applied e got p number inventory is
  by_kind k applied e got (Settled p number) is = took_comes_there does c w z b k applied e got p number is

  receives : (k : ℕ) (applied : ℕ → ℕ) (q : Option Envelope) → slice_get c.messages k ≡ q → Leads (received_at c applied q) x
  receives k applied None got = no_step c w z b
  receives k applied (Some e) got = by_kind k applied e got e.message refl

  -- something comes to the servers
  judges_at : (k : ℕ) (q : Option Letter) → slice_get f.sent k ≡ q → Follows x (in_fleet c (by_message f (after_letter f) q))
  judges_at k None got = nothing
  judges_at k (Some l) got = judges does c w z b l (all_at (λ l. IsOneOf w.net.sent l.order) f.sent k l b.sent got)

  commits_at : (k at : ℕ) (q : Option Letter) → slice_get f.sent k ≡ q → Follows x (in_fleet c (by_message f (after_commit f at) q))
  commits_at k at None got = nothing
  commits_at k at (Some l) got = commits does c w z b refuses l at (all_at (λ l. IsOneOf w.net.sent l.order) f.sent k l b.sent got)

  publishes_at : (k : ℕ) (q : Option Notice) → slice_get f.published k ≡ q → Follows x (in_fleet c (by_message f (after_notice f) q))
  publishes_at k None got = nothing
  publishes_at k (Some n) got = publishes does c w z b n (all_at (λ n. IsOneOf w.published n.publication) f.published k n b.published got)

  asks_at : (k applied : ℕ) (q : Option Handoff) → slice_get f.passes k ≡ q → Follows x (in_fleet c (by_message f (λ h. after_request f h.shard h.target applied (Passed h.pass)) q))
  asks_at k applied None got = nothing
  asks_at k applied (Some h) got = asks_passed does c w z b h applied (all_at (λ h. IsOneOf w.net.passes (pass_seen h)) f.passes k h b.passes got)

  seals_at : (k : ℕ) (q : Option Handoff) → slice_get f.passes k ≡ q → Follows x (in_fleet c (by_message f (after_seal f) q))
  seals_at k None got = nothing
  seals_at k (Some h) got = hears_cut does c w z b h

  handles : (e : FleetEvent) → Follows x (cluster_comes c (Handles e))
  handles (Judge k) = judges_at k (slice_get f.sent k) refl
  handles (Commit k at) = commits_at k at (slice_get f.sent k) refl
  handles (Abandon s v) = abandons does c w z b s v
  handles (Publish k) = publishes_at k (slice_get f.published k) refl
  handles (Serve s v applied) = asks_client does c w z b s v applied
  handles (Receive k applied) = asks_at k applied (slice_get f.passes k) refl
  handles (Seal k) = seals_at k (slice_get f.passes k) refl
  handles (Make e) = nothing
  handles (End v permit) = nothing
  handles (Open room) = nothing
  handles (HearServer k) = nothing
  handles (HearOwner k) = nothing
  handles (HearAsk k) = nothing
  handles (SendOrder lost id) = nothing
  handles (SendPublication lost id) = nothing
  handles (Forget v) = nothing
  handles (Recover k v) = nothing

  follows : (e : ClusterEvent) → ClusterFits c e → Follows x (cluster_comes c e)
  follows (Handles e) fits = handles e
  follows (Receives k applied) fits = quietly x _ Silent silent (receives k applied (slice_get c.messages k) refl)
  follows (Learns v last) fits = quietly x _ Silent silent (learns_there c w z b does v last)
  follows (Loses v) fits = quietly x _ Silent silent (loses_there c w z b v)
  follows (Notes journal fence e) fits = quietly x _ Silent silent (notes_there c w z b journal fence e fits)

  simulated : (e : ClusterEvent) → ClusterFits c e → IsSimulated c x e
  simulated e fits = let s = follows e fits in record { events = s.events; fit = s.fit; stands = s.stands; executes = s.executes; commits = s.commits }

-- whatever comes
pub agents_are_simulated : AgentsDoSo → EachSettling RefusesNone → AgentsAreSimulated
agents_are_simulated does refuses setup x c e reached stands fits =
    subst (λ y. IsSimulated c y e) (sym stands.same)
    (simulated does c x.world x.sizes stands.beside (subst RefusesNone stands.same (refuses setup x reached)) e fits)
