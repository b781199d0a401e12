-- Over reopenings: fleets one after the other, with the data of one shard.
use Rattle.std.specs.Prelude.{◌≡◌, ℕ, false, List, [], ◌∷◌}
use Rattle.std.specs.List.{AllByRecursion}
use Rattle.sm_server.specs.declared.call.Cell.TheVariants.{Primary}
use Rattle.sm_placement.specs.Setup.{Setup}
use Rattle.sm_placement.specs.Place.{Place}
use Rattle.sm_protocol.specs.Laws.{IsOpening}
use Rattle.sm_agent.specs.declared.request.Routing.TheVariants.{Execute}
use Rattle.laws_network.specs.Fleet.{Fleet, FleetEvent, Routed, fleet_comes}
use Rattle.laws_network.specs.FleetLaws.{AllFleetFit}
use Rattle.laws_data.specs.Shard.{Event, MayHappenInTurn, all_left, names}
use Rattle.laws_service_data.specs.Joined.{Joined, JoinedEvent, OfFleet, fleet_events, joined_comes}
use Rattle.laws_service_data.specs.Duties.{IsLeading, KeepsDuties}
use Rattle.laws_service_data.specs.Laws.{IsJoinedOpening, IsJoinedReached, LeadsWith}

-- What there is between two reopenings: a configuration, the shard's number in it, and the fleet with the shard's data.
pub record Epoch : Type 0 where
  pub setup : Setup
  pub number : ℕ
  pub joined : Joined

-- Something that happens.
pub data EpochEvent : Type 0 where
  -- It happens between two reopenings.
  Within : (event : JoinedEvent) → EpochEvent
  -- A reopening does something with the data, and a fleet opens.
  Anew : (setup : Setup) (number : ℕ) (fleet : Fleet) (acts : List Event) → EpochEvent

-- a fleet with the data that a reopening has left
abbrev pub opened_anew : Joined → Fleet → List Event → Joined
opened_anew x fleet acts = record { fleet = fleet; shard = all_left acts x.shard }

-- what there is after an event
abbrev pub epoch_comes : Epoch → EpochEvent → Epoch
epoch_comes x (Within j) = record { setup = x.setup; number = x.number; joined = joined_comes x.joined j }
epoch_comes x (Anew setup number fleet acts) =
    record { setup = setup; number = number; joined = opened_anew x.joined fleet acts }

-- after a list of events
abbrev pub epochs_run : List EpochEvent → Epoch → Epoch
epochs_run [] x = x
epochs_run (e ∷ es) x = epochs_run es (epoch_comes x e)

-- Servers keep their duties. A reopening keeps the rules of data, and does not name the shard as lost; whoever serves
-- the shard in the fleet that opens leads the data.
abbrev pub KeepsRules : Epoch → EpochEvent → Type 0
KeepsRules x (Within j) =
    AllFleetFit x.setup x.joined.fleet (fleet_events (j ∷ [])) × KeepsDuties x.number x.joined j
KeepsRules x (Anew setup number fleet acts) =
    MayHappenInTurn x.joined.shard acts × AllByRecursion (λ e. names e ≡ false) acts
    × IsJoinedOpening setup number (opened_anew x.joined fleet acts)

-- so it is at each event when it comes
abbrev pub KeepRules : Epoch → List EpochEvent → Type 0
KeepRules x [] = Unit {0}
KeepRules x (e ∷ es) = KeepsRules x e × KeepRules (epoch_comes x e) es

-- Whoever executes a request of a shard, after any reopenings that do not name it, leads its data then, and has all
-- that is acknowledged now.
abbrev pub ExecutesOverReopenings : Type 0
ExecutesOverReopenings = (x : Epoch) (es : List EpochEvent) (e : FleetEvent) (acts : List Event) (v : ℕ) →
    IsJoinedReached x.setup x.number x.joined → KeepRules x es
    → KeepsDuties (epochs_run es x).number (epochs_run es x).joined (OfFleet e acts)
    → (fleet_comes (epochs_run es x).joined.fleet e).0 ≡ Routed (epochs_run es x).number v Execute
    → LeadsWith (all_left acts (epochs_run es x).joined.shard) v x.joined.shard.acknowledged

-- After a reopening a fleet opens wherever a machine can open on a placement whose primary of the shard leads the data.
abbrev pub OpensAnew : Type 0
OpensAnew = (x : Epoch) (setup : Setup) (p : Place) (room number u : ℕ) (acts : List Event) →
    IsJoinedReached x.setup x.number x.joined → MayHappenInTurn x.joined.shard acts
    → AllByRecursion (λ e. names e ≡ false) acts → IsLeading (all_left acts x.joined.shard) u
    → IsOpening setup p room → p.cells number u ≡ Primary
    → (fleet : Fleet) × KeepsRules x (Anew setup number fleet acts)
