-- A fleet opens on what a reopening has settled of the one before, and the data of the shard follow: so whoever serves
-- the shard leads its data.
use Rattle.std.specs.Prelude.{◌≡◌, ◌≢◌, ◌≤◌, ◌⊎◌, ◌&&◌, ℕ, Bool, true, false, not, List, [], ◌∷◌, Some, is_some}
use Rattle.sm_server.specs.declared.call.Cell.{Cell}
use Rattle.sm_server.specs.declared.call.Cell.TheVariants.{Primary}
use Rattle.sm_server.specs.Cell.{is_absent}
use Rattle.sm_placement.specs.Opening.{first_below}
use Rattle.sm_placement.specs.Place.{Place}
use Rattle.sm_placement.specs.Setup.{Setup}
use Rattle.sm_placement.specs.Sums.{count_below}
use Rattle.sm_agent.specs.declared.request.Routing.TheVariants.{Execute}
use Rattle.sm_copies.specs.Lists.{ListEntry}
use Rattle.laws_network.specs.Fleet.{Fleet, FleetEvent, Routed, fleet_comes, held_cells}
use Rattle.laws_network.specs.FleetLaws.{IsFleetOpening}
use Rattle.laws_network.specs.FleetReopening.{IsFleetInForce}
use Rattle.laws_network.specs.Reopening.{Settlement, Settling}
use Rattle.laws_network.specs.ReopeningLaws.{AllTook, IsKnownAs, IsSettlingReached}
use Rattle.sm_reopening.specs.declared.ongoing.OngoingReopening.{OngoingReopening}
use Rattle.sm_reopening.specs.Faults.{MayConfirm}
use Rattle.sm_reopening.specs.Losses.{has_gone, is_named_lost, tells_whole}
use Rattle.sm_reopening.specs.Ongoing.{net_reopening, past_state}
use Rattle.sm_reopening.specs.Proposal.{Documented}
use Rattle.laws_data.specs.Naming.{KnowsShard}
use Rattle.laws_data.specs.Shard.{Choice, Chooses, Event, HasNoPrimary, IsLater, MayHappen, Removes, Shard, Succeeds, all_left, is_copy}
use Rattle.laws_service_data.specs.Joined.{OfFleet}
use Rattle.laws_service_data.specs.Duties.{KeepsDuties}
use Rattle.laws_service_data.specs.Laws.{IsJoinedReached, LeadsWith}
use Rattle.laws_service_data.specs.Epochs.{Anew, Epoch, EpochEvent, KeepsRules, Within, epoch_comes, epochs_run}

-- What a reopening knows of the cells of a shard is so: each server has what it told, or, if it is carried over, what is
-- recorded of it.
abbrev pub KnowsCells : OngoingReopening → ℕ → Fleet → Type 0
KnowsCells r s f = (v : ℕ) (c : Cell) → IsKnownAs (net_reopening r) (past_state r) s v c → held_cells f s v ≡ c

-- The shard's primary is left: replicas are taken away at most.
pub record KeepsPrimary (r : OngoingReopening) (s : ℕ) (w : Shard) (acts : List Event) : Type 0 where
  pub primary : ℕ
  pub left : IsKnownAs (net_reopening r) (past_state r) s primary Primary
  pub gone : ℕ → Bool
  pub needed : ℕ
  pub may : MayHappen w (Removes gone needed)
  pub is : acts ≡ Removes gone needed ∷ []

-- The shard's primary is gone, and the shard is not named as lost, though each acknowledged write had as many copies as
-- are counted on.
pub record IsUnnamed (r : OngoingReopening) (s : ℕ) (w : Shard) : Type 0 where
  pub knows : KnowsShard r s w
  pub gone : is_some (first_below (net_reopening r).servers (has_gone r s)) ≡ true
  pub document : Documented
  pub kept : ℕ
  pub two : 2 ≤ kept
  pub most : kept ≤ w.needed
  pub unnamed : is_named_lost r document kept s ≡ false

-- the choice of a server by the whole copies that were told, with the replicas that are settled
abbrev pub choice_settled : OngoingReopening → Place → ℕ → ℕ → ℕ → ℕ → Choice
choice_settled r p s primary view needed = record {
  successor = primary;
  view = view;
  replicas = λ v. not (is_absent (p.cells s v));
  answered = tells_whole r s;
  needed = needed;
  named = false;
}

-- Then the server that is settled as the primary is chosen, with a later view. As many copies are asked for as are there.
pub record ChoosesPrimary (r : OngoingReopening) (p : Place) (s : ℕ) (w : Shard) (acts : List Event) : Type 0 where
  pub primary : ℕ
  pub settled : p.cells s primary ≡ Primary
  pub unnamed : IsUnnamed r s w
  pub view : ℕ
  pub later : IsLater w view
  pub needed : ℕ
  pub enough : (copy : List ListEntry) → w.copies primary ≡ Some copy →
      needed ≤ count_below w.servers (λ v. not (is_absent (p.cells s v)) && is_copy copy (w.copies v))
  pub is : acts ≡ Chooses (choice_settled r p s primary view needed) ∷ []

-- Or the shard has had no primary since the last one ceased to be one, and this server has told its whole copy: then
-- the one that is settled succeeds it.
pub record SucceedsFormer (r : OngoingReopening) (p : Place) (s : ℕ) (w : Shard) (acts : List Event) : Type 0 where
  pub primary : ℕ
  pub settled : p.cells s primary ≡ Primary
  pub knows : KnowsShard r s w
  pub without : HasNoPrimary w
  pub former : ℕ
  pub ended : w.former former ≡ w.ended
  pub tells : tells_whole r s former ≡ true
  pub view : ℕ
  pub later : IsLater w view
  pub is : acts ≡ Succeeds primary view former ∷ []

-- Nobody is settled as the primary: nothing is done.
abbrev pub StaysWithout : Place → ℕ → List Event → Type 0
StaysWithout p s acts = ((v : ℕ) → p.cells s v ≢ Primary) × (acts ≡ [])

-- What is done with the data of a shard is what is settled of it.
abbrev pub FollowsSettlement : OngoingReopening → Place → ℕ → Shard → List Event → Type 0
FollowsSettlement r p s w acts =
    KeepsPrimary r s w acts
    ⊎ (ChoosesPrimary r p s w acts ⊎ (SucceedsFormer r p s w acts ⊎ StaysWithout p s acts))

-- A fleet opens on what a reopening has settled of the one before, with any number for the shard, and the data follow.
pub record IsReopened (x : Epoch) (setup : Setup) (number : ℕ) (fleet : Fleet) (acts : List Event) : Type 0 where
  pub reopening : OngoingReopening
  pub settlement : Settlement
  pub knows : KnowsCells reopening x.number x.joined.fleet
  pub may : MayConfirm reopening settlement
  pub opening : IsFleetOpening setup fleet
  pub cells : (v : ℕ) → held_cells fleet number v ≡ settlement.place.cells x.number v
  pub follows : FollowsSettlement reopening settlement.place x.number x.joined.shard acts

-- So it opens once a settlement is in force: its servers have the cells that are settled, or had them before they lost
-- their slots.
abbrev pub InForceIsSettled : Type 0
InForceIsSettled = (setup : Setup) (x : Settling) (s : Settlement) (f : Fleet) →
    IsSettlingReached setup x → x.reopening.settlement ≡ Some s → AllTook x.reopening → IsFleetInForce x s f
    → IsFleetOpening s.setup f × ((k v : ℕ) → held_cells f k v ≡ s.place.cells k v)

-- So the rules are kept: whoever serves the shard in the fleet that opens leads its data.
abbrev pub SettledLeads : Type 0
SettledLeads = (x : Epoch) (setup : Setup) (number : ℕ) (fleet : Fleet) (acts : List Event) →
    IsJoinedReached x.setup x.number x.joined → IsReopened x setup number fleet acts
    → KeepsRules x (Anew setup number fleet acts)

-- Servers keep their duties, and each fleet opens on what a reopening has settled of the one before.
abbrev pub KeepsSettled : Epoch → EpochEvent → Type 0
KeepsSettled x (Within j) = KeepsRules x (Within j)
KeepsSettled x (Anew setup number fleet acts) = IsReopened x setup number fleet acts

-- so it is at each event when it comes
abbrev pub KeepSettled : Epoch → List EpochEvent → Type 0
KeepSettled x [] = Unit {0}
KeepSettled x (e ∷ es) = KeepsSettled x e × KeepSettled (epoch_comes x e) es

-- Whoever executes a request of a shard, after any reopenings that settle it so, leads its data then, and has all that
-- is acknowledged now.
abbrev pub ExecutesAsSettled : Type 0
ExecutesAsSettled = (x : Epoch) (es : List EpochEvent) (e : FleetEvent) (acts : List Event) (v : ℕ) →
    IsJoinedReached x.setup x.number x.joined → KeepSettled x es
    → KeepsDuties (epochs_run es x).number (epochs_run es x).joined (OfFleet e acts)
    → (fleet_comes (epochs_run es x).joined.fleet e).0 ≡ Routed (epochs_run es x).number v Execute
    → LeadsWith (all_left acts (epochs_run es x).joined.shard) v x.joined.shard.acknowledged
