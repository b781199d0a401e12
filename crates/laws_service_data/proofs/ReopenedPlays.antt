-- The worked plays of reopenings, by server and shard.
use Rattle.std.proofs.Common.{◌≡◌, ◌≢◌, ◌≤◌, ◌<◌, ◌⊎◌, ℕ, zero, suc, Bool, true, false, not, ◌&&◌, if◌then◌else◌, List, [], ◌∷◌, Option, Some, None, refl, sym, ap, length, ◌∙◌, subst, arith, inl, inr, ◌*◌, ◌+◌}
use Rattle.std.specs.Prelude.{◌==◌, is_some, nat_lt, slice_index_or}
use Rattle.std.proofs.lemmas.Bool.{and_parts, le-ltb}
use denote.RawPtr.{null_ptr}
use Rattle.sm_server.specs.declared.call.Cell.{Cell}
use Rattle.sm_server.specs.declared.call.Cell.TheVariants.{Absent, Primary, Secondary}
use Rattle.sm_server.specs.Cell.{is_absent}
use Rattle.sm_placement.specs.Setup.{Sizes, sizes_of}
use Rattle.sm_placement.specs.Place.{Place, live_at, load_at}
use Rattle.sm_placement.specs.Layout.{PlacementModel, entries_of, grid_of}
use Rattle.sm_placement.specs.Lead.{Describes, IsPlain, is_at_rest}
use Rattle.sm_placement.specs.declared.lead.Lead.{Lead}
use Rattle.sm_placement.specs.declared.lead.Lead.TheVariants.{At, Gone}
use Rattle.sm_placement.specs.Opening.{is_handing}
use Rattle.sm_placement.specs.Rows.{IsKnownCell}
use Rattle.sm_placement.specs.SafePlace.{IsServing}
use Rattle.sm_placement.specs.Sums.{count_below}
use Rattle.sm_placement.proofs.SetupLemmas.{setup_from_tests}
use Rattle.sm_protocol.specs.Laws.{IsOpening}
use Rattle.sm_copies.specs.Lists.{ListEntry, beginning, told_of}
use Rattle.laws_network.specs.Fleet.{held_cells}
use Rattle.laws_network.specs.FleetLaws.{held_place}
use Rattle.laws_network.specs.Reopening.{Inventory, MapOwner, Server, Settlement, Slots, is_asked}
use Rattle.laws_network.specs.ReopeningLaws.{Keeps, claim, claim_of, is_carried}
use Rattle.laws_network.specs.ReopeningPlays.{the_setup}
use Rattle.sm_reopening.specs.declared.ongoing.OngoingReopening.{OngoingReopening}
use Rattle.sm_reopening.specs.declared.party.FoundSlot.{FoundSlot}
use Rattle.sm_reopening.specs.declared.party.Inventory.TheVariants as told
use Rattle.sm_reopening.specs.declared.slots.FoundSlots.{FoundSlots}
use Rattle.sm_reopening.specs.declared.party.Membership.TheVariants.{Lost, Member}
use Rattle.sm_reopening.specs.declared.state.ServerState.{ServerState}
use Rattle.sm_reopening.specs.Faults.{MayConfirm, is_appointed, is_barred}
use Rattle.sm_reopening.specs.Losses.{tells_whole}
use Rattle.sm_reopening.specs.Ongoing.{left_out_of, net_reopening, past_state, recorded_place, told_copies, told_slot}
use Rattle.sm_reopening.specs.Proposal.{has_known_lead}
use Rattle.sm_reopening.specs.States.{FitsShards, slot_of}
use Rattle.sm_reopening.specs.Survivors.{stands_above, standing_of}
use Rattle.laws_data.specs.Naming.{KnowsShard}
use Rattle.laws_data.specs.Shard.{Chooses, Ends, IsShardReached, Loses, MayHappenInTurn, Removes, Shard, Succeeds, all_left, is_copy, left_by, list_of, new_shard}
use Rattle.laws_service_data.specs.Joined.{Joined, OfData, joined_comes}
use Rattle.laws_service_data.specs.Duties.{IsLeading}
use Rattle.laws_service_data.specs.Laws.{IsJoinedOpening, IsJoinedReached}
use Rattle.laws_service_data.specs.Epochs.{Epoch}
use Rattle.laws_service_data.specs.Plays.{list_with}
use Rattle.laws_service_data.specs.Reopened.{ChoosesPrimary, IsUnnamed, KeepsPrimary, KnowsCells, SucceedsFormer, choice_settled}
use Rattle.laws_service_data.specs.ReopenedPlays.{FormerServesAgain, PrimaryServesOn, SecondaryIsChosen, WRITE_OF_SEVEN, data_after}
use Rattle.laws_service_data.proofs.Opening.{first_fleet, fleet_opening}
use Rattle.laws_service_data.proofs.Runs.{data_on}

-- ---- placements

abbrev sizes : Sizes
sizes = sizes_of the_setup

-- the shard has these cells, and the map lists this server, if any
abbrev with_cells : List Cell → Option ℕ → Place
with_cells row shown = record {
  cells = λ s v. slice_index_or (slice_index_or (row ∷ []) s []) v Absent;
  last = λ s v. 0;
  down = λ v. false;
  listed = λ s. slice_index_or (shown ∷ []) s None;
  version = λ s. 0;
  limit = 1;
}

module _ (a b c : Cell) (shown : Option ℕ) where
  abbrev place : Place
  place = with_cells (a ∷ b ∷ c ∷ []) shown

  no_server : (s v : ℕ) → 3 ≤ v → place.cells s v ≡ Absent
  no_server s zero l = absurd (omega arith)
  no_server s (suc zero) l = absurd (omega arith)
  no_server s (suc (suc zero)) l = absurd (omega arith)
  no_server zero (suc (suc (suc v))) l = refl
  no_server (suc s) (suc (suc (suc v))) l = refl

  no_shard : (s v : ℕ) → 1 ≤ s → place.cells s v ≡ Absent
  no_shard zero v l = absurd (omega arith)
  no_shard (suc s) v l = refl

  no_entry : (s : ℕ) → 1 ≤ s → place.listed s ≡ None
  no_entry zero l = absurd (omega arith)
  no_entry (suc s) l = refl

  all_known : IsKnownCell 3 a → IsKnownCell 3 b → IsKnownCell 3 c → (s v : ℕ) → IsKnownCell 3 (place.cells s v)
  all_known x y z (suc s) v = tt
  all_known x y z zero zero = x
  all_known x y z zero (suc zero) = y
  all_known x y z zero (suc (suc zero)) = z
  all_known x y z zero (suc (suc (suc v))) = tt

  -- who is listed is the primary
  abbrev ListsPrimary : Type 0
  ListsPrimary = (v : ℕ) → shown ≡ Some v → (v < 3) × (place.cells 0 v ≡ Primary)

  listed : ListsPrimary → (s v : ℕ) → place.listed s ≡ Some v → (v < 3) × (place.cells s v ≡ Primary)
  listed h zero v e = h v e
  listed h (suc s) v e = absurd (cc)

  -- a machine opens on it, if it is settled and within rooms
  opens : IsKnownCell 3 a → IsKnownCell 3 b → IsKnownCell 3 c → ListsPrimary → (lead : Lead) → is_at_rest lead ≡ true → Describes lead 0 (place.cells 0) → ((v : ℕ) → v < 3 → load_at sizes place v ≤ sizes.room v)
      → sizes.floor 0 ≤ live_at sizes place 0 → IsOpening the_setup place 9
  opens x y z lists lead rests describes rooms floor = record {
    rows = setup_from_tests the_setup refl refl refl refl;
    placement = record {
      no_server = no_server;
      no_shard = no_shard;
      no_entry = no_entry;
      no_down = λ v h. refl;
      known = all_known x y z;
      listed = λ s v e. (listed lists s v e).0;
      rooms = rooms;
    };
    settled = record {
      leads = λ s l. subst (λ k. (lead : Lead) × (is_at_rest lead ≡ true) × Describes lead 0 (place.cells k)) (let z : 0 ≡ s = omega arith in z) (lead, rests, describes);
      listed = λ s v l e. (listed lists s v e).1;
      rooms = rooms;
      floors = λ s l. subst (λ k. sizes.floor k ≤ live_at sizes place k) (let z : 0 ≡ s = omega arith in z) floor;
      down = omega arith;
      versions = λ s l. omega arith;
    };
    least = omega arith;
    most = omega arith;
  }

-- Placements: the first server is the primary alone, or the third; and both have the shard, of which the first is the primary or has ceased to be.
abbrev first_alone : Place
first_alone = with_cells (Primary ∷ Absent ∷ Absent ∷ []) (Some 0)

abbrev third_alone : Place
third_alone = with_cells (Absent ∷ Absent ∷ Primary ∷ []) (Some 2)

abbrev both : Bool → Place
both true = with_cells (Secondary ∷ Absent ∷ Secondary ∷ []) None
both false = with_cells (Primary ∷ Absent ∷ Secondary ∷ []) (Some 0)

first_opens : IsOpening the_setup first_alone 9
first_opens = opens Primary Absent Absent (Some 0) tt tt tt lists (At 0) refl (refl, plain) rooms (omega arith)
  where
    lists : (v : ℕ) → ◌≡◌ {A = Option ℕ} (Some 0) (Some v) → (v < 3) × (first_alone.cells 0 v ≡ Primary)
    lists zero e = (omega arith, refl)
    lists (suc zero) e = absurd (cc)
    lists (suc (suc zero)) e = absurd (cc)
    lists (suc (suc (suc v))) e = absurd (cc)

    plain : (v : ℕ) → v ≢ 0 → IsPlain (first_alone.cells 0 v)
    plain zero n = absurd (n refl)
    plain (suc zero) n = tt
    plain (suc (suc zero)) n = tt
    plain (suc (suc (suc v))) n = tt

    rooms : (v : ℕ) → v < 3 → load_at sizes first_alone v ≤ sizes.room v
    rooms zero l = omega arith
    rooms (suc zero) l = omega arith
    rooms (suc (suc zero)) l = omega arith
    rooms (suc (suc (suc v))) l = absurd (omega arith)

third_opens : IsOpening the_setup third_alone 9
third_opens = opens Absent Absent Primary (Some 2) tt tt tt lists (At 2) refl (refl, plain) rooms (omega arith)
  where
    lists : (v : ℕ) → ◌≡◌ {A = Option ℕ} (Some 2) (Some v) → (v < 3) × (third_alone.cells 0 v ≡ Primary)
    lists zero e = absurd (cc)
    lists (suc zero) e = absurd (cc)
    lists (suc (suc zero)) e = (omega arith, refl)
    lists (suc (suc (suc v))) e = absurd (cc)

    plain : (v : ℕ) → v ≢ 2 → IsPlain (third_alone.cells 0 v)
    plain zero n = tt
    plain (suc zero) n = tt
    plain (suc (suc zero)) n = absurd (n refl)
    plain (suc (suc (suc v))) n = tt

    rooms : (v : ℕ) → v < 3 → load_at sizes third_alone v ≤ sizes.room v
    rooms zero l = omega arith
    rooms (suc zero) l = omega arith
    rooms (suc (suc zero)) l = omega arith
    rooms (suc (suc (suc v))) l = absurd (omega arith)

led_opens : IsOpening the_setup (both false) 9
led_opens = opens Primary Absent Secondary (Some 0) tt tt tt lists (At 0) refl (refl, plain) rooms (omega arith)
  where
    lists : (v : ℕ) → ◌≡◌ {A = Option ℕ} (Some 0) (Some v) → (v < 3) × ((both false).cells 0 v ≡ Primary)
    lists zero e = (omega arith, refl)
    lists (suc zero) e = absurd (cc)
    lists (suc (suc zero)) e = absurd (cc)
    lists (suc (suc (suc v))) e = absurd (cc)

    plain : (v : ℕ) → v ≢ 0 → IsPlain ((both false).cells 0 v)
    plain zero n = absurd (n refl)
    plain (suc zero) n = tt
    plain (suc (suc zero)) n = tt
    plain (suc (suc (suc v))) n = tt

    rooms : (v : ℕ) → v < 3 → load_at sizes (both false) v ≤ sizes.room v
    rooms zero l = omega arith
    rooms (suc zero) l = omega arith
    rooms (suc (suc zero)) l = omega arith
    rooms (suc (suc (suc v))) l = absurd (omega arith)

unled_opens : IsOpening the_setup (both true) 9
unled_opens = opens Secondary Absent Secondary None tt tt tt (λ v e. absurd (cc)) Gone refl plain rooms (omega arith)
  where
    plain : (v : ℕ) → IsPlain ((both true).cells 0 v)
    plain zero = tt
    plain (suc zero) = tt
    plain (suc (suc zero)) = tt
    plain (suc (suc (suc v))) = tt

    rooms : (v : ℕ) → v < 3 → load_at sizes (both true) v ≤ sizes.room v
    rooms zero l = omega arith
    rooms (suc zero) l = omega arith
    rooms (suc (suc zero)) l = omega arith
    rooms (suc (suc (suc v))) l = absurd (omega arith)

both_open : (x : Bool) → IsOpening the_setup (both x) 9
both_open true = unled_opens
both_open false = led_opens

-- ---- the reopening

-- what is recorded
abbrev past : PlacementModel
past = record {
  setup = the_setup;
  cells = Primary ∷ Absent ∷ Secondary ∷ [];
  lasts = 0 ∷ 0 ∷ 0 ∷ [];
  down = false ∷ false ∷ false ∷ [];
  listed = Some 0 ∷ [];
  versions = 0 ∷ [];
  limit = 1;
}

-- a server that is lost
abbrev is_lost : ServerState
is_lost = record { membership = Lost; told = None; settled = false; promised = false }

-- no slots
abbrev nothing_told : FoundSlots
nothing_told = record {
  places = record { items = []; ptr = null_ptr; len = 0; cap = 0; alloc = record { memory = record { seal = tt } }; ok = (refl, omega arith); small = omega arith };
  told = record { items = []; ptr = null_ptr; len = 0; cap = 0; alloc = record { memory = record { seal = tt } }; ok = (refl, omega arith); small = omega arith };
  near = λ s. omega arith;
}

-- one that has told that it has nothing
abbrev has_nothing : ServerState
has_nothing = record { membership = Member; told = Some (told.Slots nothing_told); settled = false; promised = false }

-- what is told of the shard by a server that has the write
abbrev slot_told : Cell → FoundSlot
slot_told c = record { cell = c; copy = told_of (list_with (7 ∷ [])); reached = false }

one_place : (s : ℕ) → slice_index_or (1 ∷ []) s 0 ≤ 1
one_place zero = omega arith
one_place (suc s) = omega arith

-- these slots
abbrev slots_told : Cell → FoundSlots
slots_told c = record {
  places = record { items = 1 ∷ []; ptr = null_ptr; len = 1; cap = 1; alloc = record { memory = record { seal = tt } }; ok = (refl, omega arith); small = omega arith };
  told = record { items = slot_told c ∷ []; ptr = null_ptr; len = 1; cap = 1; alloc = record { memory = record { seal = tt } }; ok = (refl, omega arith); small = omega arith };
  near = one_place;
}

-- and that server
abbrev has_told : Cell → ServerState
has_told c = record { membership = Member; told = Some (told.Slots (slots_told c)); settled = false; promised = false }

-- the reopening: the second server has nothing
abbrev reopening_by : (x z : ServerState) → FitsShards 1 (x ∷ has_nothing ∷ z ∷ []) → OngoingReopening
reopening_by x z fits = record {
  base = 2097152;
  shards = 1;
  past = past;
  servers = record { items = x ∷ has_nothing ∷ z ∷ []; ptr = null_ptr; len = 3; cap = 3; alloc = record { memory = record { seal = tt } }; ok = (refl, omega arith); small = omega arith };
  map_told = true;
  map_settled = false;
  confirmed = None;
  known_servers = omega arith;
  known_shards = omega arith;
  few = omega arith;
  fits = fits;
}

-- The third server is lost, and the first remains; or the first is lost. If the first remains, it may have ceased to be the primary.
data Fate : Type 0 where
  Remains : (ended : Bool) → Fate
  Vanishes : Fate

-- what the first one has of the shard, if it remains
abbrev cell_of : Bool → Cell
cell_of true = Secondary
cell_of false = Primary

without_third : (x : Bool) → FitsShards 1 (has_told (cell_of x) ∷ has_nothing ∷ is_lost ∷ [])
without_third x zero = refl
without_third x (suc zero) = refl
without_third x (suc (suc zero)) = refl
without_third x (suc (suc (suc v))) = refl

without_first : FitsShards 1 (is_lost ∷ has_nothing ∷ has_told Secondary ∷ [])
without_first zero = refl
without_first (suc zero) = refl
without_first (suc (suc zero)) = refl
without_first (suc (suc (suc v))) = refl

-- the reopening
abbrev r : Fate → OngoingReopening
r (Remains x) = reopening_by (has_told (cell_of x)) is_lost (without_third x)
r Vanishes = reopening_by is_lost (has_told Secondary) without_first

-- what is settled then
abbrev st : Fate → Settlement
st (Remains x) = record { setup = the_setup; place = first_alone; room = 9 }
st Vanishes = record { setup = the_setup; place = third_alone; room = 9 }

-- ---- it may be confirmed

-- the cell that an inventory tells
abbrev cell_in : Option Inventory → ℕ → Cell
cell_in (Some (Slots cells reached)) k = cells k
cell_in _ k = Absent

-- the cell that a server has told
abbrev cell_told : Fate → ℕ → ℕ → Cell
cell_told b k v = cell_in ((net_reopening (r b)).told (Server v)) k

told_as : (b : Fate) (k v : ℕ) (cells : ℕ → Cell) (reached : ℕ → Bool) → (net_reopening (r b)).told (Server v) ≡ Some (Slots cells reached) → cell_told b k v ≡ cells k
told_as b k v cells reached e = ap (λ o. cell_in o k) e

keeps : (b : Fate) (k v : ℕ) → Keeps (cell_told b k v) ((st b).place.cells k v)
keeps (Remains true) zero zero = inr refl
keeps (Remains false) zero zero = refl
keeps (Remains x) zero (suc zero) = refl
keeps (Remains x) zero (suc (suc zero)) = refl
keeps (Remains x) zero (suc (suc (suc v))) = refl
keeps Vanishes zero zero = refl
keeps Vanishes zero (suc zero) = refl
keeps Vanishes zero (suc (suc zero)) = inr refl
keeps Vanishes zero (suc (suc (suc v))) = refl
keeps (Remains x) (suc k) zero = refl
keeps (Remains x) (suc k) (suc zero) = refl
keeps (Remains x) (suc k) (suc (suc zero)) = refl
keeps (Remains x) (suc k) (suc (suc (suc v))) = refl
keeps Vanishes (suc k) zero = refl
keeps Vanishes (suc k) (suc zero) = refl
keeps Vanishes (suc k) (suc (suc zero)) = refl
keeps Vanishes (suc k) (suc (suc (suc v))) = refl

no_handing : (b : Fate) (k v : ℕ) → is_handing (cell_told b k v) ≡ false
no_handing (Remains true) zero zero = refl
no_handing (Remains false) zero zero = refl
no_handing (Remains x) zero (suc zero) = refl
no_handing (Remains x) zero (suc (suc zero)) = refl
no_handing (Remains x) zero (suc (suc (suc v))) = refl
no_handing Vanishes zero zero = refl
no_handing Vanishes zero (suc zero) = refl
no_handing Vanishes zero (suc (suc zero)) = refl
no_handing Vanishes zero (suc (suc (suc v))) = refl
no_handing (Remains x) (suc k) zero = refl
no_handing (Remains x) (suc k) (suc zero) = refl
no_handing (Remains x) (suc k) (suc (suc zero)) = refl
no_handing (Remains x) (suc k) (suc (suc (suc v))) = refl
no_handing Vanishes (suc k) zero = refl
no_handing Vanishes (suc k) (suc zero) = refl
no_handing Vanishes (suc k) (suc (suc zero)) = refl
no_handing Vanishes (suc k) (suc (suc (suc v))) = refl

neither : (a : Bool) → (a && false) ≡ false
neither true = refl
neither false = refl

no_more : (v : ℕ) → nat_lt (suc (suc (suc v))) 3 ≡ false
no_more v = le-ltb (suc (suc (suc v))) 3 (omega arith)

not_carried : (b : Fate) (v : ℕ) → is_carried (net_reopening (r b)) (past_state (r b)) v ≡ false
unfolding entries_of
not_carried (Remains x) zero = refl
not_carried (Remains x) (suc zero) = refl
not_carried (Remains x) (suc (suc zero)) = refl
not_carried (Remains x) (suc (suc (suc v))) = neither _
not_carried Vanishes zero = refl
not_carried Vanishes (suc zero) = refl
not_carried Vanishes (suc (suc zero)) = refl
not_carried Vanishes (suc (suc (suc v))) = neither _

answered : (b : Fate) (v : ℕ) → is_asked (net_reopening (r b)) (Server v) ≡ true → is_some ((net_reopening (r b)).told (Server v)) ≡ true
answered (Remains x) zero e = refl
answered (Remains x) (suc zero) e = refl
answered (Remains x) (suc (suc zero)) e = absurd (cc)
answered (Remains x) (suc (suc (suc v))) e = absurd (let z = no_more v in let y = (and_parts (nat_lt (suc (suc (suc v))) 3) true e).0 in cc)
answered Vanishes zero e = absurd (cc)
answered Vanishes (suc zero) e = refl
answered Vanishes (suc (suc zero)) e = refl
answered Vanishes (suc (suc (suc v))) e = absurd (let z = no_more v in let y = (and_parts (nat_lt (suc (suc (suc v))) 3) true e).0 in cc)

lost : (b : Fate) (k v : ℕ) → (net_reopening (r b)).lost v ≡ true → (st b).place.cells k v ≡ Absent
lost (Remains x) zero zero e = absurd (cc)
lost (Remains x) zero (suc zero) e = refl
lost (Remains x) zero (suc (suc zero)) e = refl
lost (Remains x) zero (suc (suc (suc v))) e = refl
lost Vanishes zero zero e = refl
lost Vanishes zero (suc zero) e = refl
lost Vanishes zero (suc (suc zero)) e = absurd (cc)
lost Vanishes zero (suc (suc (suc v))) e = refl
lost (Remains x) (suc k) v e = refl
lost Vanishes (suc k) v e = refl

claims : (b : Fate) (k u v : ℕ) → (st b).place.cells k v ≡ Primary → 0 < claim_of (net_reopening (r b)) (past_state (r b)) k v
claims (Remains true) zero u zero e = omega arith
claims (Remains false) zero u zero e = omega arith
claims (Remains x) zero u (suc zero) e = absurd (cc)
claims (Remains x) zero u (suc (suc zero)) e = absurd (cc)
claims (Remains x) zero u (suc (suc (suc v))) e = absurd (cc)
claims Vanishes zero u zero e = absurd (cc)
claims Vanishes zero u (suc zero) e = absurd (cc)
claims Vanishes zero u (suc (suc zero)) e = omega arith
claims Vanishes zero u (suc (suc (suc v))) e = absurd (cc)
claims (Remains x) (suc k) u v e = absurd (cc)
claims Vanishes (suc k) u v e = absurd (cc)

handed : (b : Fate) (k v : ℕ) (cells : ℕ → Cell) (reached : ℕ → Bool) → (net_reopening (r b)).told (Server v) ≡ Some (Slots cells reached) → is_handing (cells k) ≡ true → ⊥
handed b k v cells reached e h = let z = no_handing b k v in let y = ap is_handing (told_as b k v cells reached e) in absurd (cc)

best : (b : Fate) (k u v : ℕ) → (st b).place.cells k v ≡ Primary → stands_above (standing_of (r b) k u) (standing_of (r b) k v) ≡ false
best (Remains true) zero zero zero e = refl
best (Remains false) zero zero zero e = refl
best (Remains true) zero (suc zero) zero e = refl
best (Remains false) zero (suc zero) zero e = refl
best (Remains true) zero (suc (suc zero)) zero e = refl
best (Remains false) zero (suc (suc zero)) zero e = refl
best (Remains true) zero (suc (suc (suc u))) zero e =
    ap (λ c. stands_above (record { claim = if c then claim ((past_state (r (Remains true))).place.cells 0 (suc (suc (suc u)))) false else 0; copy = told_copies (r (Remains true)) 0 (suc (suc (suc u))) }) (standing_of (r (Remains true)) 0 0)) (not_carried (Remains true) (suc (suc (suc u))))
best (Remains false) zero (suc (suc (suc u))) zero e =
    ap (λ c. stands_above (record { claim = if c then claim ((past_state (r (Remains false))).place.cells 0 (suc (suc (suc u)))) false else 0; copy = told_copies (r (Remains false)) 0 (suc (suc (suc u))) }) (standing_of (r (Remains false)) 0 0)) (not_carried (Remains false) (suc (suc (suc u))))
best (Remains x) zero u (suc zero) e = absurd (cc)
best (Remains x) zero u (suc (suc zero)) e = absurd (cc)
best (Remains x) zero u (suc (suc (suc v))) e = absurd (cc)
best Vanishes zero u zero e = absurd (cc)
best Vanishes zero u (suc zero) e = absurd (cc)
best Vanishes zero zero (suc (suc zero)) e = refl
best Vanishes zero (suc zero) (suc (suc zero)) e = refl
best Vanishes zero (suc (suc zero)) (suc (suc zero)) e = refl
best Vanishes zero (suc (suc (suc u))) (suc (suc zero)) e =
    ap (λ c. stands_above (record { claim = if c then claim ((past_state (r Vanishes)).place.cells 0 (suc (suc (suc u)))) false else 0; copy = told_copies (r Vanishes) 0 (suc (suc (suc u))) }) (standing_of (r Vanishes) 0 2)) (not_carried Vanishes (suc (suc (suc u))))
best Vanishes zero u (suc (suc (suc v))) e = absurd (cc)
best (Remains x) (suc k) u v e = absurd (cc)
best Vanishes (suc k) u v e = absurd (cc)

in_document : (b : Fate) (v : ℕ) → left_out_of (r b) v ≡ false
in_document (Remains x) zero = refl
in_document (Remains x) (suc zero) = refl
in_document (Remains x) (suc (suc zero)) = refl
in_document (Remains x) (suc (suc (suc v))) = refl
in_document Vanishes zero = refl
in_document Vanishes (suc zero) = refl
in_document Vanishes (suc (suc zero)) = refl
in_document Vanishes (suc (suc (suc v))) = refl

left : (b : Fate) (k v : ℕ) (slot : FoundSlot) → is_barred (r b) v ≡ true → told_slot (r b) k v ≡ Some slot → slot.cell ≡ Absent
left (Remains x) k zero slot e h = absurd (cc)
left (Remains x) k (suc zero) slot e h = absurd (cc)
left (Remains x) k (suc (suc zero)) slot e h = absurd (cc)
left (Remains x) k (suc (suc (suc v))) slot e h = absurd (cc)
left Vanishes k zero slot e h = absurd (cc)
left Vanishes k (suc zero) slot e h = absurd (cc)
left Vanishes k (suc (suc zero)) slot e h = absurd (cc)
left Vanishes k (suc (suc (suc v))) slot e h = absurd (cc)

has_lead : (b : Fate) → has_known_lead (r b) 0 ≡ true
unfolding grid_of
has_lead (Remains x) = refl
has_lead Vanishes = refl

appointed : (b : Fate) (k v : ℕ) (slot : FoundSlot) → is_appointed slot.cell ((st b).place.cells k v) ≡ true → has_known_lead (r b) k ≡ true
appointed b zero v slot e = has_lead b
appointed (Remains x) (suc k) v slot e = absurd (let z = (and_parts _ false e).1 in cc)
appointed Vanishes (suc k) v slot e = absurd (let z = (and_parts _ false e).1 in cc)

open_is : (b : Fate) → IsOpening (st b).setup (st b).place (st b).room
open_is (Remains x) = first_opens
open_is Vanishes = third_opens

-- it may be
may : (b : Fate) → MayConfirm (r b) (st b)
may b = record {
  allowed = record {
    first = first b;
    opening = open_is b;
    servers = servers b;
    map = map b;
    answered = λ v e. inl (answered b v e);
    kept = λ k v cells reached e. subst (λ c. Keeps c ((st b).place.cells k v)) (told_as b k v cells reached e) (keeps b k v);
    carried = λ k v e. absurd (let z = not_carried b v in cc);
    down = λ v e. absurd (let z = not_carried b v in cc);
    lost = lost b;
    claims = λ k u v e some. claims b k u v e;
    handed = λ k v cells reached e h. absurd (handed b k v cells reached e h);
  };
  best = best b;
  told = λ v e. absurd (let z = in_document b v in cc);
  left = left b;
  appointed = λ k v slot e h. appointed b k v slot h;
}
  where
    first : (b : Fate) → (net_reopening (r b)).settlement ≡ None
    first (Remains x) = refl
    first Vanishes = refl

    servers : (b : Fate) → length (st b).setup.servers ≤ (net_reopening (r b)).servers
    servers (Remains x) = omega arith
    servers Vanishes = omega arith

    map : (b : Fate) → is_some ((net_reopening (r b)).told MapOwner) ≡ true
    map (Remains x) = refl
    map Vanishes = refl

-- ---- the data

-- who has the shard
abbrev members : ℕ → Bool
members v = slice_index_or (true ∷ false ∷ true ∷ []) v false

abbrev new_data : Shard
new_data = new_shard 3 members 0 2

abbrev seven : List ListEntry
seven = list_with (7 ∷ [])

written : MayHappenInTurn new_data WRITE_OF_SEVEN
written = (
  (refl, omega arith),
  (
    (refl, omega arith),
    (
      (
        beginning 0 ∷ [],
        seven,
        refl,
        refl,
        (0, record { view = 0; position = 0 }, refl, refl, omega arith),
        refl,
        omega arith,
        omega arith,
      ),
      (
        (refl, refl),
        (
          (record { server = 2; copy = told_of seven }, refl),
          (
            (
              seven,
              2,
              refl,
              refl,
              refl,
              omega arith,
              record { have = λ p. (omega arith, omega arith); greatest = λ other h. h.0 },
              omega arith,
              omega arith,
            ),
            tt,
          ),
        ),
      ),
    ),
  ),
)

abbrev written_data : Shard
written_data = all_left WRITE_OF_SEVEN new_data

-- the first server may have ceased to be the primary, by the order 1
abbrev first_data : Bool → Shard
first_data true = left_by written_data (Ends 1)
first_data false = written_data

written_reached : IsShardReached written_data
written_reached = record { servers = 3; replicas = members; primary = 0; needed = 2; events = WRITE_OF_SEVEN; enough = omega arith; allowed = written; is = refl }

data_reached : (x : Bool) → IsShardReached (first_data x)
data_reached false = written_reached
data_reached true = data_on written_data (Ends 1 ∷ []) written_reached ((refl, (omega arith, omega arith), omega arith), tt)

-- ---- the fleet

abbrev first_joined : Bool → Joined
first_joined x = record { fleet = first_fleet the_setup (both x) 9; shard = first_data x }

first_serves : (x : Bool) (v : ℕ) → IsServing (held_place (first_joined x).fleet) 0 v → IsLeading (first_joined x).shard v
first_serves true zero h = absurd (cc)
first_serves false zero h = (refl, omega arith)
first_serves true (suc zero) h = absurd (cc)
first_serves false (suc zero) h = absurd (cc)
first_serves true (suc (suc zero)) h = absurd (cc)
first_serves false (suc (suc zero)) h = absurd (cc)
first_serves true (suc (suc (suc v))) h = absurd (cc)
first_serves false (suc (suc (suc v))) h = absurd (cc)

joined_opening : (x : Bool) → IsJoinedOpening the_setup 0 (first_joined x)
joined_opening x = record { fleet = fleet_opening the_setup (both x) 9 (both_open x); shard = data_reached x; leading = first_serves x }

-- a server has lost its copy
abbrev epoch_without : Bool → ℕ → Epoch
epoch_without x v = record { setup = the_setup; number = 0; joined = joined_comes (first_joined x) (OfData (Loses v)) }

epoch_reached : (x : Bool) (v : ℕ) → IsJoinedReached the_setup 0 (epoch_without x v).joined
epoch_reached x v = record { first = first_joined x; opening = joined_opening x; events = OfData (Loses v) ∷ []; fit = tt; kept = ((refl, tt), tt); state = refl }

-- the first server may have ceased to be the primary
abbrev has_ended : Fate → Bool
has_ended (Remains x) = x
has_ended Vanishes = false

told_is_held : (b : Fate) (v : ℕ) (cells : ℕ → Cell) (reached : ℕ → Bool) → (net_reopening (r b)).told (Server v) ≡ Some (Slots cells reached) → held_cells (first_joined (has_ended b)).fleet 0 v ≡ cell_told b 0 v
told_is_held (Remains true) zero cells reached e = refl
told_is_held (Remains false) zero cells reached e = refl
told_is_held (Remains true) (suc zero) cells reached e = refl
told_is_held (Remains false) (suc zero) cells reached e = refl
told_is_held (Remains x) (suc (suc zero)) cells reached e = absurd (cc)
told_is_held (Remains x) (suc (suc (suc v))) cells reached e = absurd (cc)
told_is_held Vanishes zero cells reached e = absurd (cc)
told_is_held Vanishes (suc zero) cells reached e = refl
told_is_held Vanishes (suc (suc zero)) cells reached e = refl
told_is_held Vanishes (suc (suc (suc v))) cells reached e = absurd (cc)

knows_cells : (b : Fate) → KnowsCells (r b) 0 (first_joined (has_ended b)).fleet
knows_cells b v c (inl t) = told_is_held b v t.0 t.1 t.2 ∙ told_as b 0 v t.0 t.1 t.2 ∙ t.3
knows_cells b v c (inr q) = absurd (let z = not_carried b v in let y = q.0 in cc)

-- ---- the secondary is lost

takes_away : KeepsPrimary (r (Remains false)) 0 (data_after (Loses 2 ∷ [])) (Removes (λ v. v == 2) 1 ∷ [])
takes_away = record {
  primary = 0;
  left = inl ((λ s. cell_told (Remains false) s 0), (λ s. (slot_of (slots_told Primary) s).reached), refl, refl);
  gone = λ v. v == 2;
  needed = 1;
  may = omega arith;
  is = refl;
}

-- the primary that is left serves on
pub primary_serves_on : PrimaryServesOn
primary_serves_on = record {
  epoch = epoch_without false 2;
  reached = epoch_reached false 2;
  is = refl;
  fleet = first_fleet the_setup first_alone 9;
  acts = Removes (λ v. v == 2) 1 ∷ [];
  reopened = record {
    reopening = r (Remains false);
    settlement = st (Remains false);
    knows = knows_cells (Remains false);
    may = may (Remains false);
    opening = fleet_opening the_setup first_alone 9 first_opens;
    cells = λ v. refl;
    follows = inl takes_away;
  };
  executes = refl;
  copy = refl;
}

-- ---- the primary is lost

abbrev data_lost : Shard
data_lost = data_after (Loses 0 ∷ [])

knows_shard : KnowsShard (r Vanishes) 0 data_lost
unfolding grid_of
knows_shard = record { servers = refl; replicas = replicas; copies = copies; lost = lost_told; secondaries = secondaries }
  where
    replicas : (v : ℕ) → members v ≡ not (is_absent ((recorded_place (r Vanishes)).cells 0 v))
    replicas zero = refl
    replicas (suc zero) = refl
    replicas (suc (suc zero)) = refl
    replicas (suc (suc (suc v))) = sym (ap (λ b. not (is_absent (if b then slice_index_or past.cells (0 * 3 + suc (suc (suc v))) Absent else Absent))) (no_more v))

    copies : (v : ℕ) → tells_whole (r Vanishes) 0 v ≡ true → (copy : List ListEntry) × (data_lost.copies v ≡ Some copy) × (told_copies (r Vanishes) 0 v ≡ told_of copy)
    copies zero e = absurd (cc)
    copies (suc zero) e = absurd (cc)
    copies (suc (suc zero)) e = (seven, refl, refl)
    copies (suc (suc (suc v))) e = absurd (cc)

    lost_told : (v : ℕ) → (net_reopening (r Vanishes)).lost v ≡ true → is_some ((net_reopening (r Vanishes)).told (Server v)) ≡ false
    lost_told zero e = refl
    lost_told (suc zero) e = absurd (cc)
    lost_told (suc (suc zero)) e = absurd (cc)
    lost_told (suc (suc (suc v))) e = refl

    secondaries : (v : ℕ) → ((standing_of (r Vanishes) 0 v).claim ≡ 0) ⊎ ((standing_of (r Vanishes) 0 v).claim ≡ 2)
    secondaries zero = inl refl
    secondaries (suc zero) = inl refl
    secondaries (suc (suc zero)) = inr refl
    secondaries (suc (suc (suc v))) = inl (ap (λ c. if c then claim ((past_state (r Vanishes)).place.cells 0 (suc (suc (suc v)))) false else 0) (not_carried Vanishes (suc (suc (suc v)))))

unnamed : IsUnnamed (r Vanishes) 0 data_lost
unfolding grid_of entries_of
unnamed = record { knows = knows_shard; gone = refl; document = λ s v. None; kept = 2; two = omega arith; most = omega arith; unnamed = refl }

chosen : ChoosesPrimary (r Vanishes) third_alone 0 data_lost (Chooses (choice_settled (r Vanishes) third_alone 0 2 2 1) ∷ [])
chosen = record {
  primary = 2;
  settled = refl;
  unnamed = unnamed;
  view = 2;
  later = (omega arith, omega arith);
  needed = 1;
  enough = λ copy e. subst (λ (c : List ListEntry). 1 ≤ count_below 3 (λ v. not (is_absent (third_alone.cells 0 v)) && is_copy c (data_lost.copies v))) (ap list_of e) (omega arith);
  is = refl;
}

-- the secondary that is chosen serves
pub secondary_is_chosen : SecondaryIsChosen
secondary_is_chosen = record {
  epoch = epoch_without false 0;
  reached = epoch_reached false 0;
  is = refl;
  fleet = first_fleet the_setup third_alone 9;
  acts = Chooses (choice_settled (r Vanishes) third_alone 0 2 2 1) ∷ [];
  reopened = record {
    reopening = r Vanishes;
    settlement = st Vanishes;
    knows = knows_cells Vanishes;
    may = may Vanishes;
    opening = fleet_opening the_setup third_alone 9 third_opens;
    cells = λ v. refl;
    follows = inr (inl chosen);
  };
  executes = refl;
  copy = refl;
}

-- ---- the primary has ended, and the other one is lost

abbrev data_ended : Shard
data_ended = data_after (Ends 1 ∷ Loses 2 ∷ [])

knows_ended : KnowsShard (r (Remains true)) 0 data_ended
unfolding grid_of
knows_ended = record { servers = refl; replicas = replicas; copies = copies; lost = lost_told; secondaries = secondaries }
  where
    replicas : (v : ℕ) → members v ≡ not (is_absent ((recorded_place (r (Remains true))).cells 0 v))
    replicas zero = refl
    replicas (suc zero) = refl
    replicas (suc (suc zero)) = refl
    replicas (suc (suc (suc v))) = sym (ap (λ b. not (is_absent (if b then slice_index_or past.cells (0 * 3 + suc (suc (suc v))) Absent else Absent))) (no_more v))

    copies : (v : ℕ) → tells_whole (r (Remains true)) 0 v ≡ true → (copy : List ListEntry) × (data_ended.copies v ≡ Some copy) × (told_copies (r (Remains true)) 0 v ≡ told_of copy)
    copies zero e = (seven, refl, refl)
    copies (suc zero) e = absurd (cc)
    copies (suc (suc zero)) e = absurd (cc)
    copies (suc (suc (suc v))) e = absurd (cc)

    lost_told : (v : ℕ) → (net_reopening (r (Remains true))).lost v ≡ true → is_some ((net_reopening (r (Remains true))).told (Server v)) ≡ false
    lost_told zero e = absurd (cc)
    lost_told (suc zero) e = absurd (cc)
    lost_told (suc (suc zero)) e = refl
    lost_told (suc (suc (suc v))) e = refl

    secondaries : (v : ℕ) → ((standing_of (r (Remains true)) 0 v).claim ≡ 0) ⊎ ((standing_of (r (Remains true)) 0 v).claim ≡ 2)
    secondaries zero = inr refl
    secondaries (suc zero) = inl refl
    secondaries (suc (suc zero)) = inl refl
    secondaries (suc (suc (suc v))) = inl (ap (λ c. if c then claim ((past_state (r (Remains true))).place.cells 0 (suc (suc (suc v)))) false else 0) (not_carried (Remains true) (suc (suc (suc v)))))

succeeds : SucceedsFormer (r (Remains true)) first_alone 0 data_ended (Succeeds 0 2 0 ∷ [])
succeeds = record {
  primary = 0;
  settled = refl;
  knows = knows_ended;
  without = omega arith;
  former = 0;
  ended = refl;
  tells = refl;
  view = 2;
  later = (omega arith, omega arith);
  is = refl;
}

-- the former primary serves again
pub former_serves_again : FormerServesAgain
former_serves_again = record {
  epoch = epoch_without true 2;
  reached = epoch_reached true 2;
  is = refl;
  fleet = first_fleet the_setup first_alone 9;
  acts = Succeeds 0 2 0 ∷ [];
  reopened = record {
    reopening = r (Remains true);
    settlement = st (Remains true);
    knows = knows_cells (Remains true);
    may = may (Remains true);
    opening = fleet_opening the_setup first_alone 9 first_opens;
    cells = λ v. refl;
    follows = inr (inr (inl succeeds));
  };
  executes = refl;
  copy = refl;
}
