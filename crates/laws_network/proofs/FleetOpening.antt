-- A fleet opens on each placement that a machine opens on, with servers that have their slots and nothing sent.
use Rattle.std.proofs.Common.{◌≡◌, ℕ, refl, inr, arith, Option, Some, None, List, [], false}
use Rattle.sm_placement.specs.Setup.{Setup, sizes_of}
use Rattle.sm_placement.specs.Place.{Place, entry_at}
use Rattle.sm_protocol.specs.State.{opened}
use Rattle.sm_protocol.specs.Laws.{IsOpening}
use Rattle.sm_agent.specs.declared.base.Base.{Base}
use Rattle.sm_agent.specs.Order.{cell_load}
use Rattle.laws_network.specs.Fleet.{Fleet}
use Rattle.laws_network.specs.FleetLaws.{FleetOpens, IsFleetOpening}
use Rattle.laws_network.proofs.GoingOn.{first_world_opening}

-- a base that turns nothing away
abbrev first_base : Base
first_base = record { journal = 1; number = 0; fenced = false; nonce = None }

-- the fleet before any event
abbrev first_fleet : Setup → Place → ℕ → Fleet
first_fleet setup p room = record {
  start = record { journal = 1; fence = 0; base = 0; w = opened (sizes_of setup) p room; permits = λ v. None; restores = [] };
  journal = [];
  servers = λ v. record {
    base = first_base;
    slots = λ s. record { cell = p.cells s v; last = 0; at_work = None; load = cell_load (p.cells s v) ((sizes_of setup).load s); cut = None };
  };
  had = p.cells;
  owner = first_base;
  shown = entry_at p;
  sent = [];
  answers = [];
  published = [];
  stored = [];
  passes = [];
  asks = [];
}

-- it opens
pub fleet_opens : FleetOpens
fleet_opens setup p room o = (first_fleet setup p room, opening, λ s v. refl)
  where
    opening : IsFleetOpening setup (first_fleet setup p room)
    opening = record {
      journal = refl;
      last = λ s v. 0;
      world = first_world_opening setup p room o;
      fence = omega arith;
      restores = refl;
      servers = λ v h. record { journal = refl; taken = refl; fence = omega arith; number = omega arith; lasts = λ s. inr ((omega arith), (omega arith)); loads = λ s. refl };
      nonces = λ v nonce h. absurd (cc);
      owner = record { known = refl; journal = refl; taken = refl; fence = omega arith; number = omega arith };
      permits = record { range = λ v permit h. absurd (cc); apart = λ u v permit h k. absurd (cc) };
    }
