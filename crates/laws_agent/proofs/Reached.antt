-- Wherever events lead, a cluster stands for a state to which events of the model lead: so one agent executes, and all have what was settled.
use Rattle.std.proofs.Common.{◌≡◌, ℕ, refl, sym, ap, ◌∙◌, inl, inr, subst, None, List, [], ◌∷◌, ◌++◌}
use Rattle.std.specs.Prelude.{is_some, if◌then◌else◌}
use Rattle.sm_server.specs.declared.call.Cell.TheVariants.{Absent}
use Rattle.laws_network.specs.Words.{Setup}
use Rattle.laws_network.specs.FleetLaws.{EachFleet}
use Rattle.laws_network.specs.FleetReopening.{FleetCanReopen}
use Rattle.laws_network.specs.Reopening.{MapOwner, Reopen, Server, Settling, SettlingEvent, records, settling_comes, settling_run}
use Rattle.laws_network.specs.ReopeningLaws.{AllSettlingFit, AllTook, EachSettling, Executes, ExecutesSafely, IsSettlingReached, OpensWithPast, ShownExecutes}
use Rattle.laws_agent.specs.Cluster.{Cluster, ClusterEvent, Handles, Learns, Loses, Notes, Receives, cluster_comes, cluster_run, entry_noted}
use Rattle.laws_agent.specs.ClusterLaws.{AgentExecutes, AgentsAreSimulated, AllClusterFit, ClusterFits, EachCluster, HaveSettlement, OneAgentExecutes, StandsFor, StandsForReached, cluster_of}
use Rattle.laws_agent.proofs.Opening.{begins, begun_stands, now}

-- ---- runs of the model

run_more : (es ds : List SettlingEvent) (x : Settling) → settling_run ds (settling_run es x) ≡ settling_run (es ++ ds) x
run_more [] ds x = refl
run_more (e ∷ es) ds x = run_more es ds (settling_comes x e).1

fit_more : (es ds : List SettlingEvent) (x : Settling) → AllSettlingFit es x → AllSettlingFit ds (settling_run es x) → AllSettlingFit (es ++ ds) x
fit_more [] ds x fits more = more
fit_more (e ∷ es) ds x fits more = (fits.0, fit_more es ds (settling_comes x e).1 fits.1 more)

-- where more events lead
reached_more : (setup : Setup) (x : Settling) → IsSettlingReached setup x → (es : List SettlingEvent) → AllSettlingFit es x → IsSettlingReached setup (settling_run es x)
reached_more setup x r es fits = record {
  start = r.start;
  outset = r.outset;
  base = r.base;
  servers = r.servers;
  lost = r.lost;
  begun = r.begun;
  events = r.events ++ es;
  fit = fit_more r.events es (records r.start (Reopen r.base r.servers r.lost)) r.fit (subst (AllSettlingFit es) r.state fits);
  state = ap (settling_run es) r.state ∙ run_more r.events es (records r.start (Reopen r.base r.servers r.lost));
}

-- ---- runs of a cluster

module _ (simulated : AgentsAreSimulated) (setup : Setup) where
  goes_on : (c : Cluster) (e : ClusterEvent) → ClusterFits c e → StandsForReached setup c → StandsForReached setup (cluster_comes c e).1
  goes_on c e fits (x, reached, stands) =
      let s = simulated setup x c e reached stands fits in
      (settling_run s.events x, reached_more setup x reached s.events s.fit, s.stands)

  runs_on : (es : List ClusterEvent) (c : Cluster) → AllClusterFit es c → StandsForReached setup c → StandsForReached setup (cluster_run es c)
  runs_on [] c fits h = h
  runs_on (e ∷ es) c fits h = runs_on es (cluster_comes c e).1 fits.1 (goes_on c e fits.0 h)

  -- what an agent executes the model executes
  executes : (c : Cluster) (x : Settling) → IsSettlingReached setup x → StandsFor c x → (s v : ℕ) → AgentExecutes c s v → Executes x s v
  executes c x reached stands s v (Handles e, is) = (simulated setup x c (Handles e) reached stands tt).executes s v is
  executes c x reached stands s v (Receives k applied, is) = absurd (cc)
  executes c x reached stands s v (Learns u last, is) = absurd (cc)
  executes c x reached stands s v (Loses u, is) = absurd (cc)
  executes c x reached stands s v (Notes journal fence e, is) = absurd (cc)

-- each cluster to which events lead stands for such a state
pub stand_for_reached : AgentsAreSimulated → EachFleet FleetCanReopen → EachCluster StandsForReached
stand_for_reached simulated can setup c r =
    let k = can setup r.fleet r.reached in
    subst (StandsForReached setup) (sym r.state)
    (runs_on simulated setup r.events (entry_noted (cluster_of r.fleet) r.journal r.fence (Reopen r.base r.servers r.lost)) r.fit (
      records (now setup r.fleet k r.low) (Reopen r.base r.servers r.lost),
      begins setup r.fleet k r.low r.journal r.fence r.base r.servers r.lost r.begun,
      begun_stands setup r.fleet k r.low r.journal r.fence r.base r.servers r.lost r.begun,
    ))

-- what an agent has that has its slots the model's server has
had_there : (c : Cluster) (x : Settling) → StandsFor c x → (s v : ℕ) → (c.fleet.servers v).base.nonce ≡ None → ((c.fleet.servers v).slots s).cell ≡ x.world.net.cells s v
had_there c x stands s v known =
    sym (ap (λ n. if is_some n then Absent else ((c.fleet.servers v).slots s).cell) known) ∙ sym (ap (λ (y : Settling). y.world.net.cells s v) stands.same)

-- so one agent executes
pub one_agent_executes : AgentsAreSimulated → EachCluster StandsForReached → EachSettling ExecutesSafely → EachSettling ShownExecutes → EachCluster OneAgentExecutes
one_agent_executes simulated stand safely shows setup c r =
    let h = stand setup c r in
    let same = h.2.same in
    let safe = safely setup h.0 h.1 in
    let run = executes simulated setup c h.0 h.1 h.2 in record {
      one = λ s u v a b. safe.one s u v (run s u a) (run s v b);
      known = λ s v a. sym (ap (λ (y : Settling). (y.bases (Server v)).nonce) same) ∙ safe.slots s v (run s v a);
      shown = λ s u v e owner known free a.
          elim (shows setup h.0 h.1 s u v (ap (λ (y : Settling). (y.world.shown s).server) same ∙ e) (ap (λ (y : Settling). (y.bases MapOwner).fenced) same ∙ owner)
          (ap (λ (y : Settling). (y.bases (Server u)).nonce) same ∙ known) (ap (λ (y : Settling). (y.bases (Server u)).fenced) same ∙ free) (run s v a)) [
            | inl p ↦ inl p
            | inr q ↦ inr (q.0, had_there c h.0 h.2 s u known ∙ q.1)
          ];
    }

-- and they have what was settled
pub have_settlement : EachCluster StandsForReached → EachSettling OpensWithPast → EachCluster HaveSettlement
have_settlement stand opens setup c r s is took k v known =
    let h = stand setup c r in
    let same = h.2.same in
    let settled = opens setup h.0 h.1 s (ap (λ (y : Settling). y.reopening.settlement) same ∙ is) (subst (λ (y : Settling). AllTook y.reopening) (sym same) took) in
    had_there c h.0 h.2 k v known ∙ settled.0 k v (ap (λ (y : Settling). (y.bases (Server v)).nonce) same ∙ known)
