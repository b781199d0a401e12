-- A worked play of agents in a reopening: server 0 hands the primary of shard 0 over to server 1, which is lost; server
-- 2 has a secondary, and an order is on its way there. All others tell, and the old owner serves again.
use Rattle.std.specs.Prelude.{◌≡◌, ℕ, ◌==◌, Bool, false, Some, None, List, [], ◌∷◌, map}
use Rattle.sm_server.specs.declared.call.Cell.TheVariants.{Secondary, Primary, Prepared, Forwarding}
use Rattle.sm_server.specs.declared.call.Call.TheVariants.{Drop}
use Rattle.sm_agent.specs.declared.base.Base.{Base}
use Rattle.sm_agent.specs.declared.order.Verdict.TheVariants as verdict
use Rattle.sm_agent.specs.declared.request.Routing.TheVariants.{Execute, NotYet, PassOn}
use Rattle.sm_agent.specs.Order.{cell_load}
use Rattle.laws_network.specs.Words.{Place, opened, sizes_of}
use Rattle.laws_network.specs.Controller.{Letter}
use Rattle.laws_network.specs.Fleet.{Fleet, FleetOutcome, Judge, Judged, Routed, Serve}
use Rattle.laws_network.specs.Reopening.{Confirm, Reopen}
use Rattle.laws_network.specs.ReopeningPlays.{brought, the_setup, with_row}
use Rattle.sm_protocol.specs.State.{stream_id}
use Rattle.laws_agent.specs.Cluster.{Cluster, ClusterEvent, Handles, Loses, Notes, Receives, cluster_comes, cluster_run}
use Rattle.laws_agent.specs.ClusterLaws.{MayNote, cluster_of}

-- the handover is under way
abbrev pub handover_place : Place
handover_place = with_row (Forwarding 1 1 ∷ Prepared 0 1 ∷ Secondary ∷ []) (Some 0) []

-- a server or a map's owner of journal 7
abbrev pub of_journal : Base
of_journal = record { journal = 7; number = 0; fenced = false; nonce = None }

-- server 2 is to drop the shard
abbrev pub an_order : Letter
an_order = record {
  order = record { stream = stream_id 0 0; at = 0; call = record { shard = 0; server = 2; call = Drop }; number = 1 };
  journal = 7;
  fence = 0;
  load = 4;
  room = 10;
}

-- the fleet, with the order that was sent; the old owner's cut is 5
abbrev pub handing_fleet : Fleet
handing_fleet = record {
  start = record { journal = 7; fence = 0; base = 0; w = opened (sizes_of the_setup) handover_place 9; permits = λ v. None; restores = [] };
  journal = [];
  servers = λ v. record {
    base = of_journal;
    slots = λ s. record { cell = handover_place.cells s v; last = 0; at_work = None; load = cell_load (handover_place.cells s v) 4; cut = Some 5 };
  };
  had = handover_place.cells;
  owner = of_journal;
  shown = λ s. record { server = handover_place.listed s; version = 0 };
  sent = an_order ∷ [];
  answers = [];
  published = [];
  stored = [];
  passes = [];
  asks = [];
}

-- the messages at these places come, one after the other; nobody has applied a write
abbrev pub receive : List ℕ → List ClusterEvent
receive places = map (λ k. Receives k (λ s. 0)) places

-- server 1 is given up
abbrev pub one_lost : ℕ → Bool
one_lost v = v == 1

-- server 1 has lost its slots
abbrev pub server_lost : Cluster
server_lost = cluster_run (Loses 1 ∷ []) (cluster_of handing_fleet)

-- a reopening has begun, and all others have told what they have
abbrev pub others_told : Cluster
others_told = cluster_run (Notes 7 3000000 (Reopen 3000000 3 one_lost) ∷ receive (0 ∷ 1 ∷ 2 ∷ 3 ∷ 4 ∷ 5 ∷ [])) server_lost

-- the settlement is confirmed, and all have taken it
abbrev pub all_taken : Cluster
all_taken = cluster_run (Notes 7 3000000 (Confirm brought) ∷ receive (6 ∷ 7 ∷ 8 ∷ 9 ∷ 10 ∷ 11 ∷ [])) others_told

-- what comes of the order, and of a request to server 0
abbrev pub outcomes_of : Cluster → List FleetOutcome
outcomes_of c = map (λ e. (cluster_comes c e).0) (Handles (Judge 0) ∷ Handles (Serve 0 0 0) ∷ [])

-- The controller may begin and confirm what it does. Until the fence has come the order begins and requests are passed
-- on, then neither; and at last the old owner executes requests, and the order is old.
pub record ServesAgain : Type 0 where
  pub begins : MayNote server_lost (Reopen 3000000 3 one_lost)
  pub confirms : MayNote others_told (Confirm brought)
  pub before : outcomes_of server_lost ≡ Judged an_order verdict.Begin ∷ Routed 0 0 (PassOn 1 1 5) ∷ []
  pub fenced : outcomes_of others_told ≡ Judged an_order verdict.NotReady ∷ Routed 0 0 NotYet ∷ []
  pub settled : outcomes_of all_taken ≡ Judged an_order verdict.Old ∷ Routed 0 0 Execute ∷ []
  pub cells : map (λ v. ((all_taken.fleet.servers v).slots 0).cell) (0 ∷ 2 ∷ []) ≡ Primary ∷ Secondary ∷ []
