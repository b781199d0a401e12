-- Orders by which a shard's primary ceases to be one, or a replica becomes one, come in the order of their numbers.
use Rattle.std.specs.Prelude.{◌≡◌, ◌<◌, List}
use Rattle.sm_server.specs.declared.call.Cell.{Cell}
use Rattle.sm_server.specs.declared.call.Cell.TheVariants.{Primary}
use Rattle.sm_server.specs.declared.call.Call.{Call}
use Rattle.sm_server.specs.declared.call.Call.TheVariants.{Change, Drop}
use Rattle.sm_placement.specs.Setup.{Setup}
use Rattle.laws_network.specs.Net.{Order}
use Rattle.laws_network.specs.Fleet.{Committed, Fleet, FleetEvent, fleet_comes, fleet_run}
use Rattle.laws_network.specs.FleetLaws.{AllFleetFit, IsFleetReached}
use Rattle.laws_service_data.specs.Duties.{cell_at}

-- By a call at a cell a primary ceases to be one, or a replica becomes one. A handover is none: its view stays.
abbrev pub IsOfLead : Call → Cell → Type 0
IsOfLead (Change from to) cell = Unit {0}
IsOfLead Drop Primary = Unit {0}
IsOfLead call cell = ⊥

-- An event commits such an order.
pub record CommitsOfLead (f : Fleet) (e : FleetEvent) (o : Order) : Type 0 where
  pub commits : (fleet_comes f e).0 ≡ Committed o
  pub lead : IsOfLead o.call.call (cell_at f o.call.shard o.call.server)

-- Of two such orders of a shard the one that is committed later has the higher number, whatever comes between: crashes,
-- orders of other streams, epochs.
abbrev pub LeadNumbersRise : Type 0
LeadNumbersRise = (setup : Setup) (f : Fleet) (e : FleetEvent) (o : Order) (es : List FleetEvent) (later : FleetEvent) →
    (p : Order) → IsFleetReached setup f → CommitsOfLead f e o → AllFleetFit setup (fleet_comes f e).1 es
    → CommitsOfLead (fleet_run es (fleet_comes f e).1) later p → o.call.shard ≡ p.call.shard → o.number < p.number
