-- Servers that have their slots, over which a reopening can begin.
use Rattle.std.proofs.Common.{ℕ, refl, inr, arith, false, None, []}
use Rattle.sm_placement.specs.Place.{entry_at}
use Rattle.sm_agent.specs.declared.base.Base.{Base}
use Rattle.sm_agent.specs.Order.{cell_load}
use Rattle.laws_network.specs.Words.{IsOpening, Place, Setup, opened, sizes_of}
use Rattle.laws_network.specs.Fleet.{Fleet}
use Rattle.laws_network.specs.FleetLaws.{IsFleetOpening, IsFleetReached}
use Rattle.laws_network.specs.Reopening.{Reopen}
use Rattle.laws_network.proofs.GoingOn.{first_world_opening}
use Rattle.laws_agent.specs.Cluster.{entry_noted}
use Rattle.laws_agent.specs.ClusterLaws.{ClustersAreReached, cluster_of}

-- a base that turns nothing away
abbrev first_base : Base
first_base = record { journal = 1; number = 0; fenced = false; nonce = None }

-- the fleet before any event
abbrev first_fleet : Setup → Place → ℕ → Fleet
first_fleet setup p room = record {
  start = record { journal = 1; fence = 0; base = 0; w = opened (sizes_of setup) p room; permits = λ v. None; restores = [] };
  journal = [];
  servers = λ v. record {
    base = first_base;
    slots = λ s. record { cell = p.cells s v; last = 0; at_work = None; load = cell_load (p.cells s v) ((sizes_of setup).load s); cut = None };
  };
  had = p.cells;
  owner = first_base;
  shown = entry_at p;
  sent = [];
  answers = [];
  published = [];
  stored = [];
  passes = [];
  asks = [];
}

-- events lead to it
first_reached : (setup : Setup) (p : Place) (room : ℕ) → IsOpening setup p room → IsFleetReached setup (first_fleet setup p room)
first_reached setup p room o = record { first = first_fleet setup p room; opening = opening; events = []; fit = tt; state = refl }
  where
    opening : IsFleetOpening setup (first_fleet setup p room)
    opening = record {
      journal = refl;
      last = λ s v. 0;
      world = first_world_opening setup p room o;
      fence = omega arith;
      restores = refl;
      servers = λ v h. record { journal = refl; taken = refl; fence = omega arith; number = omega arith; lasts = λ s. inr ((omega arith), (omega arith)); loads = λ s. refl };
      nonces = λ v nonce h. absurd (cc);
      owner = record { known = refl; journal = refl; taken = refl; fence = omega arith; number = omega arith };
      permits = record { range = λ v permit h. absurd (cc); apart = λ u v permit h k. absurd (cc) };
    }

-- a reopening has begun over it
pub clusters_are_reached : ClustersAreReached
clusters_are_reached setup p room base servers o places versions = (
  entry_noted (cluster_of (first_fleet setup p room)) 1 base (Reopen base servers (λ v. false)),
  record {
    fleet = first_fleet setup p room;
    reached = first_reached setup p room o;
    low = λ v nonce e. absurd (cc);
    journal = 1;
    fence = base;
    base = base;
    servers = servers;
    lost = λ v. false;
    begun = record { later = omega arith; places = omega arith; versions = λ s. (let a = versions s in omega arith); given_up = λ v e. absurd (cc) };
    events = [];
    fit = tt;
    state = refl;
  },
  λ s v. refl,
)
