-- The number of an order by which a shard's primary ceases to be one, or a replica becomes one, is later than all views
-- and ends before: servers that do with the data what orders ask for need not see to it.
use Rattle.std.specs.Prelude.{◌≡◌, ◌≤◌, ℕ, false, List, [], ◌∷◌}
use Rattle.std.specs.List.{AllByRecursion}
use Rattle.sm_placement.specs.Setup.{Setup}
use Rattle.laws_network.specs.Net.{Order}
use Rattle.laws_network.specs.Fleet.{FleetEvent}
use Rattle.laws_network.specs.FleetLaws.{AllFleetFit}
use Rattle.laws_data.specs.Shard.{Changes, Ends, Event, IsLater, MayHappen, MayHappenInTurn, Shard, Succeeds, left_by, names}
use Rattle.laws_service_data.specs.Joined.{Joined, JoinedEvent, OfData, OfFleet, fleet_events, joined_comes, joined_run}
use Rattle.laws_service_data.specs.Duties.{DataFollow, KeepDuties, has_cause}
use Rattle.laws_service_data.specs.Laws.{IsJoinedOpening}
use Rattle.laws_service_data.specs.LeadNumbers.{CommitsOfLead}
use Rattle.laws_service_data.specs.Epochs.{Anew, Epoch, EpochEvent, KeepRules, Within, epoch_comes, opened_anew}
use Rattle.laws_service_data.specs.Reopened.{IsReopened, KeepSettled}

-- The rules of data, but for the numbers of orders: what is done by an order may happen if its number is a later one.
abbrev pub MayHappenIfLater : Shard → Event → Type 0
MayHappenIfLater w (Changes s view answered) = IsLater w view → MayHappen w (Changes s view answered)
MayHappenIfLater w (Succeeds s view former) = IsLater w view → MayHappen w (Succeeds s view former)
MayHappenIfLater w (Ends number) = IsLater w number → MayHappen w (Ends number)
MayHappenIfLater w e = MayHappen w e

-- so may each event in its turn
abbrev pub MayHappenInTurnIfLater : Shard → List Event → Type 0
MayHappenInTurnIfLater w [] = Unit {0}
MayHappenInTurnIfLater w (e ∷ es) = MayHappenIfLater w e × MayHappenInTurnIfLater (left_by w e) es

-- Servers keep their duties, and the rules of data but for the numbers of orders.
abbrev pub KeepsDutiesIfLater : ℕ → Joined → JoinedEvent → Type 0
KeepsDutiesIfLater s x (OfFleet e acts) = DataFollow s x e acts × MayHappenInTurnIfLater x.shard acts
KeepsDutiesIfLater s x (OfData event) = (has_cause event ≡ false) × MayHappen x.shard event

-- so they do at each event when it comes
abbrev pub KeepDutiesIfLater : ℕ → Joined → List JoinedEvent → Type 0
KeepDutiesIfLater s x [] = Unit {0}
KeepDutiesIfLater s x (j ∷ js) = KeepsDutiesIfLater s x j × KeepDutiesIfLater s (joined_comes x j) js

-- The fleet opens under a number that none of the shard's views and ends is above: its orders have higher ones.
pub record IsAboveViews (x : Joined) : Type 0 where
  pub view : x.shard.view ≤ x.fleet.start.base
  pub ended : x.shard.ended ≤ x.fleet.start.base

-- When such an order is committed, its number is later than all that has made a view of the shard or ended a primary.
abbrev pub NumbersAreLater : Type 0
NumbersAreLater = (setup : Setup) (s : ℕ) (x : Joined) (js : List JoinedEvent) (e : FleetEvent) (o : Order) →
    IsJoinedOpening setup s x → IsAboveViews x → AllFleetFit setup x.fleet (fleet_events js)
    → KeepDutiesIfLater s x js → CommitsOfLead (joined_run js x).fleet e o → o.call.shard ≡ s
    → IsLater (joined_run js x).shard o.number

-- So who keeps all rules but that one keeps that, too.
abbrev pub DutiesSuffice : Type 0
DutiesSuffice = (setup : Setup) (s : ℕ) (x : Joined) (js : List JoinedEvent) →
    IsJoinedOpening setup s x → IsAboveViews x → AllFleetFit setup x.fleet (fleet_events js)
    → KeepDutiesIfLater s x js → KeepDuties s x js

-- Servers keep their duties but for the numbers of orders, and each fleet opens under a number that none of the shard's
-- views and ends is above.
abbrev pub KeepsRulesIfLater : Epoch → EpochEvent → Type 0
KeepsRulesIfLater x (Within j) =
    AllFleetFit x.setup x.joined.fleet (fleet_events (j ∷ [])) × KeepsDutiesIfLater x.number x.joined j
KeepsRulesIfLater x (Anew setup number fleet acts) =
    MayHappenInTurn x.joined.shard acts × AllByRecursion (λ e. names e ≡ false) acts
    × IsJoinedOpening setup number (opened_anew x.joined fleet acts) × IsAboveViews (opened_anew x.joined fleet acts)

-- so it is at each event when it comes
abbrev pub KeepRulesIfLater : Epoch → List EpochEvent → Type 0
KeepRulesIfLater x [] = Unit {0}
KeepRulesIfLater x (e ∷ es) = KeepsRulesIfLater x e × KeepRulesIfLater (epoch_comes x e) es

-- So it goes on over reopenings.
abbrev pub RulesSuffice : Type 0
RulesSuffice = (x : Epoch) (es : List EpochEvent) →
    IsJoinedOpening x.setup x.number x.joined → IsAboveViews x.joined → KeepRulesIfLater x es → KeepRules x es

-- The same where each fleet opens on what a reopening has settled of the one before.
abbrev pub KeepsSettledIfLater : Epoch → EpochEvent → Type 0
KeepsSettledIfLater x (Within j) = KeepsRulesIfLater x (Within j)
KeepsSettledIfLater x (Anew setup number fleet acts) =
    IsReopened x setup number fleet acts × IsAboveViews (opened_anew x.joined fleet acts)

-- so it is at each event when it comes
abbrev pub KeepSettledIfLater : Epoch → List EpochEvent → Type 0
KeepSettledIfLater x [] = Unit {0}
KeepSettledIfLater x (e ∷ es) = KeepsSettledIfLater x e × KeepSettledIfLater (epoch_comes x e) es

-- So it goes on over reopenings that settle the shard.
abbrev pub SettledSuffices : Type 0
SettledSuffices = (x : Epoch) (es : List EpochEvent) →
    IsJoinedOpening x.setup x.number x.joined → IsAboveViews x.joined → KeepSettledIfLater x es → KeepSettled x es
