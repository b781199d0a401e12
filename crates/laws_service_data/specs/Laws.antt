-- Who serves a shard has its data.
use Rattle.std.specs.Prelude.{◌≡◌, ◌≤◌, ◌⊎◌, ℕ, true, List, [], ◌∷◌, Some, length}
use Rattle.sm_server.specs.declared.call.Cell.{Cell}
use Rattle.sm_server.specs.declared.call.Cell.TheVariants.{Forwarding, Prepared, Primary}
use Rattle.sm_placement.specs.Setup.{Setup}
use Rattle.sm_placement.specs.Place.{Place}
use Rattle.sm_placement.specs.SafePlace.{IsServing}
use Rattle.sm_protocol.specs.Laws.{IsOpening}
use Rattle.sm_agent.specs.declared.request.Routing.TheVariants.{Execute}
use Rattle.sm_copies.specs.Lists.{ListEntry, begins}
use Rattle.laws_network.specs.Fleet.{Fleet, FleetEvent, Routed, fleet_comes, held_cells}
use Rattle.laws_network.specs.FleetLaws.{AllFleetFit, IsFleetOpening, held_place}
use Rattle.laws_data.specs.Shard.{Event, Hands, HasPrimary, IsShardReached, MayHappen, Shard, all_left}
use Rattle.laws_service_data.specs.Joined.{Joined, JoinedEvent, OfFleet, fleet_events, joined_comes, joined_run}
use Rattle.laws_service_data.specs.Duties.{IsLeading, KeepDuties, KeepsDuties, cell_at}

-- A fleet opens, and whoever serves the shard leads its data.
pub record IsJoinedOpening (setup : Setup) (s : ℕ) (x : Joined) : Type 0 where
  pub fleet : IsFleetOpening setup x.fleet
  pub shard : IsShardReached x.shard
  pub leading : (v : ℕ) → IsServing (held_place x.fleet) s v → IsLeading x.shard v

-- They open wherever a machine can open, if the shard's primary is that of the data.
abbrev pub JoinedOpens : Type 0
JoinedOpens = (setup : Setup) (p : Place) (room s : ℕ) (w : Shard) →
    IsOpening setup p room → IsShardReached w → HasPrimary w → p.cells s w.primary ≡ Primary
    → (f : Fleet) × IsJoinedOpening setup s (record { fleet = f; shard = w }) × ((v : ℕ) → cell_at f s v ≡ p.cells s v)

-- Events lead from an opening to this, and servers keep their duties.
pub record IsJoinedReached (setup : Setup) (s : ℕ) (x : Joined) : Type 0 where
  pub first : Joined
  pub opening : IsJoinedOpening setup s first
  pub events : List JoinedEvent
  pub fit : AllFleetFit setup first.fleet (fleet_events events)
  pub kept : KeepDuties s first events
  pub state : x ≡ joined_run events first

-- A server leads, or it is prepared to take over from the one that does.
abbrev pub LeadsOrWaits : Shard → ℕ → Cell → Type 0
LeadsOrWaits w v (Prepared from number) = IsLeading w v ⊎ IsLeading w from
LeadsOrWaits w v cell = IsLeading w v

-- Whoever serves a shard leads its data, or is prepared to take over from the one that does.
abbrev pub ServingLeads : Type 0
ServingLeads = (setup : Setup) (s : ℕ) (x : Joined) → IsJoinedReached setup s x →
    (v : ℕ) → IsServing (held_place x.fleet) s v → LeadsOrWaits x.shard v (held_cells x.fleet s v)

-- A server leads, and has a whole copy, in which is all of a list.
pub record LeadsWith (w : Shard) (v : ℕ) (list : List ListEntry) : Type 0 where
  pub leading : IsLeading w v
  pub copy : List ListEntry
  pub copy_is : w.copies v ≡ Some copy
  pub has_all : begins list copy ≡ true

-- Whoever executes a request of a shard, at any time from now on, leads its data then, and has all that is acknowledged
-- now.
abbrev pub ExecutesWithAll : Type 0
ExecutesWithAll = (setup : Setup) (s v : ℕ) (x : Joined) (events : List JoinedEvent) →
    (e : FleetEvent) (acts : List Event) →
    IsJoinedReached setup s x → AllFleetFit setup x.fleet (fleet_events events) → KeepDuties s x events
    → KeepsDuties s (joined_run events x) (OfFleet e acts)
    → (fleet_comes (joined_run events x).fleet e).0 ≡ Routed s v Execute
    → LeadsWith (all_left acts (joined_run events x).shard) v x.shard.acknowledged

-- From the cut of an old owner on its list stays as it is, whatever comes, as long as it leads: nobody executes
-- a write.
abbrev pub CutEndsWrites : Type 0
CutEndsWrites = (setup : Setup) (s u to number : ℕ) (x : Joined) (j : JoinedEvent) →
    IsJoinedReached setup s x → KeepsDuties s x j → held_cells x.fleet s u ≡ Forwarding to number
    → IsLeading (joined_comes x j).shard u
    → ((joined_comes x j).shard.view ≡ x.shard.view)
    × ((joined_comes x j).shard.lists x.shard.view ≡ x.shard.lists x.shard.view)

-- An old owner forwards before each of these events, and leads all along.
abbrev pub ForwardsAlong : ℕ → ℕ → Joined → List JoinedEvent → Type 0
ForwardsAlong s u x [] = IsLeading x.shard u
ForwardsAlong s u x (j ∷ js) =
    (to number : ℕ) × (held_cells x.fleet s u ≡ Forwarding to number) × IsLeading x.shard u
    × ForwardsAlong s u (joined_comes x j) js

-- Whoever has a beginning of what the old owner has, no shorter than its list was at the cut, may take over.
abbrev pub ReachedCutHasAll : Type 0
ReachedCutHasAll = (setup : Setup) (s u v : ℕ) (x : Joined) (js : List JoinedEvent) →
    (list source copy : List ListEntry) →
    IsJoinedReached setup s x → AllFleetFit setup x.fleet (fleet_events js) → KeepDuties s x js
    → ForwardsAlong s u x js
    → x.shard.copies u ≡ Some list → (joined_run js x).shard.copies u ≡ Some source
    → (joined_run js x).shard.copies v ≡ Some copy → begins copy source ≡ true → length list ≤ length copy
    → MayHappen (joined_run js x).shard (Hands v)
