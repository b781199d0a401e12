-- A fleet with data opens wherever a machine opens: with servers that have their slots, and nothing sent.
use Rattle.std.proofs.Common.{ℕ, refl, inr, arith, None, [], false}
use Rattle.sm_placement.specs.Setup.{Setup, sizes_of}
use Rattle.sm_placement.specs.Place.{Place, entry_at}
use Rattle.sm_placement.specs.SafePlace.{IsServing}
use Rattle.sm_protocol.specs.State.{opened}
use Rattle.sm_protocol.specs.Laws.{IsOpening}
use Rattle.sm_agent.specs.declared.base.Base.{Base}
use Rattle.sm_agent.specs.Order.{cell_load}
use Rattle.laws_network.specs.Fleet.{Fleet, held_cells}
use Rattle.laws_network.specs.FleetLaws.{IsFleetOpening, IsFleetReached, held_place}
use Rattle.laws_network.proofs.FleetSafety.{fleet_is_safe}
use Rattle.laws_network.proofs.GoingOn.{first_world_opening}
use Rattle.laws_service_data.specs.Duties.{IsLeading}
use Rattle.laws_service_data.specs.Laws.{JoinedOpens}
use Rattle.laws_service_data.proofs.Rows.{primary_serves}

-- a base that turns nothing away
abbrev pub first_base : Base
first_base = record { journal = 1; number = 0; fenced = false; nonce = None }

-- the fleet before any event
abbrev pub first_fleet : Setup → Place → ℕ → Fleet
first_fleet setup p room = record {
  start = record { journal = 1; fence = 0; base = 0; w = opened (sizes_of setup) p room; permits = λ v. None; restores = [] };
  journal = [];
  servers = λ v. record {
    base = first_base;
    slots = λ s. record { cell = p.cells s v; last = 0; at_work = None; load = cell_load (p.cells s v) ((sizes_of setup).load s); cut = None };
  };
  had = p.cells;
  owner = first_base;
  shown = entry_at p;
  sent = [];
  answers = [];
  published = [];
  stored = [];
  passes = [];
  asks = [];
}

-- a fleet opens before any event
pub fleet_opening : (setup : Setup) (p : Place) (room : ℕ) → IsOpening setup p room → IsFleetOpening setup (first_fleet setup p room)
fleet_opening setup p room o = record {
  journal = refl;
  last = λ s v. 0;
  world = first_world_opening setup p room o;
  fence = omega arith;
  restores = refl;
  servers = λ v h. record { journal = refl; taken = refl; fence = omega arith; number = omega arith; lasts = λ s. inr ((omega arith), (omega arith)); loads = λ s. refl };
  nonces = λ v nonce h. absurd (cc);
  owner = record { known = refl; journal = refl; taken = refl; fence = omega arith; number = omega arith };
  permits = record { range = λ v permit h. absurd (cc); apart = λ u v permit h k. absurd (cc) };
}

-- it opens
pub joined_opens : JoinedOpens
joined_opens setup p room s w o r has primary = (
  first_fleet setup p room,
  record { fleet = fleet_opening setup p room o; shard = r; leading = leading },
  λ v. refl,
)
  where
    reached : IsFleetReached setup (first_fleet setup p room)
    reached = record { first = first_fleet setup p room; opening = fleet_opening setup p room o; events = []; fit = tt; state = refl }

    leading : (v : ℕ) → IsServing (held_place (first_fleet setup p room)) s v → IsLeading w v
    leading v h = ((fleet_is_safe setup (first_fleet setup p room) reached).held.serving s w.primary v (primary_serves (held_cells (first_fleet setup p room) s) w.primary primary) h, has)
