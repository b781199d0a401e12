-- The worked plays of an end, computed by the definitions.
use Rattle.std.proofs.Common.{◌≡◌, ◌≢◌, ◌≤◌, ◌<◌, ℕ, suc, refl, sym, ap, ◌∙◌, inl, inr, subst, arith, not, Bool, true, false, Option, Some, None}
use Rattle.std.specs.Prelude.{◌==◌, nat_lt, if◌then◌else◌}
use Rattle.std.proofs.lemmas.Bool.{and_parts, cases_eq, cases_lt, ltb-true, ne_eqb}
use Rattle.sm_server.specs.declared.call.Cell.TheVariants.{Absent, Secondary, Primary, Forwarding}
use Rattle.sm_placement.specs.Setup.{Setup, sizes_of}
use Rattle.sm_placement.specs.Place.{Place, load_of}
use Rattle.sm_placement.specs.Rows.{live_in, serves_as}
use Rattle.laws_network.specs.Words.{IsOpening}
use Rattle.sm_placement.proofs.Leads.{one_serves}
use Rattle.sm_placement.proofs.SetupLemmas.{setup_from_tests}
use Rattle.laws_network.specs.Reopening.{Entries, Inventory, MapOwner, Party, Reopening, Server, Settlement, Slots, is_asked}
use Rattle.laws_network.specs.ReopeningLaws.{MaySettle}
use Rattle.laws_network.specs.ReopeningPlays.{lost_in_handover, the_setup}
use Rattle.laws_settling.specs.Inheriting.{inherited, told_cell}
use Rattle.laws_settling.specs.Ending.{StandsAsTold}
use Rattle.laws_settling.specs.EndingPlays.{CarriedBlocks, HasEnd, given_up_before}

abbrev r : Reopening
r = lost_in_handover.reopening

-- what holds of the servers 0, 1 and 2
below_three : (P : ℕ → Type 0) → P 0 → P 1 → P 2 → (v : ℕ) → v < 3 → P v
below_three P a b c v l = elim (cases_eq v 0) [
  | inl e ↦ subst P (sym e) a
  | inr e ↦ elim (cases_eq v 1) [
    | inl f ↦ subst P (sym f) b
    | inr f ↦ subst P (let z : 2 ≡ v = omega arith in z) c
  ]
]

-- what a server has told
abbrev slots : ℕ → Inventory
slots v = Slots (λ s. lost_in_handover.world.net.cells s v) (λ s. false)

abbrev told_by : Bool → Bool → Option Inventory
told_by second first = if second then Some (slots 2) else if first then Some (slots 0) else None

-- of another shard nothing
row_at : (second first : Bool) (k : ℕ) → k ≢ 0 → told_cell (told_by second first) k ≡ Absent
row_at true first k d = ap (λ b. if b then Secondary else Absent) (ne_eqb k 0 d)
row_at false true k d = ap (λ b. if b then Forwarding 1 1 else Absent) (ne_eqb k 0 d)
row_at false false k d = refl

known : (k v : ℕ) → told_cell (r.told (Server v)) k ≢ Absent → (k < 1) × (v < 3)
known k v some = (
  elim (cases_eq k 0) [
    | inl e ↦ omega arith
    | inr d ↦ absurd (some (row_at (v == 2) (v == 0) k d))
  ],
  elim (cases_lt v 3) [
    | inl below ↦ below
    | inr above ↦ absurd (some (ap (λ b. told_cell (told_by b (v == 0)) k) (ne_eqb v 2 (λ e. absurd (omega arith))) ∙ ap (λ b. told_cell (told_by false b) k) (ne_eqb v 0 (λ e. absurd (omega arith)))))
  ],
)

stand_below : (v : ℕ) → v < 3 → is_asked r (Server v) ≡ true → StandsAsTold lost_in_handover (Server v)
stand_below = below_three (λ v. is_asked r (Server v) ≡ true → StandsAsTold lost_in_handover (Server v)) (λ a. record { inventory = slots 0; told = refl; stands = refl }) (λ a. absurd (let z : false ≡ true = a in cc))
    (λ a. record { inventory = slots 2; told = refl; stands = refl })

stand : (p : Party) → is_asked r p ≡ true → StandsAsTold lost_in_handover p
stand MapOwner a = record { inventory = Entries; told = refl; stands = refl }
stand (Server v) a = stand_below v (ltb-true v 3 (and_parts (nat_lt v 3) (not (r.lost v)) a).0) a

load_is : (v : ℕ) → v < 3 → load_of (sizes_of the_setup) (inherited r 3) v ≤ 10
load_is = below_three (λ v. load_of (sizes_of the_setup) (inherited r 3) v ≤ 10) (let e : load_of (sizes_of the_setup) (inherited r 3) 0 ≡ 4 = refl in omega arith)
    (let e : load_of (sizes_of the_setup) (inherited r 3) 1 ≡ 0 = refl in omega arith) (let e : load_of (sizes_of the_setup) (inherited r 3) 2 ≡ 4 = refl in omega arith)

room_is : (v : ℕ) → v < 3 → (sizes_of the_setup).room v ≡ 10
room_is = below_three (λ v. (sizes_of the_setup).room v ≡ 10) refl refl refl

floor_is : (k : ℕ) → k < 1 → (sizes_of the_setup).floor k ≤ live_in 3 (inherited r 3 k) (λ v. false)
floor_is k below = subst (λ a. (sizes_of the_setup).floor a ≤ live_in 3 (inherited r 3 a) (λ v. false)) (let z : 0 ≡ k = omega arith in z)
    (let e : (sizes_of the_setup).floor 0 ≡ 1 = refl in let f : live_in 3 (inherited r 3 0) (λ v. false) ≡ 2 = refl in omega arith)

-- what the lost handover leaves can be settled
pub has_end : HasEnd
has_end = record {
  stand = stand;
  place = record {
    rows = setup_from_tests the_setup refl refl refl refl;
    servers = let z : 3 ≤ 3 = omega arith in z;
    known = known;
    rooms = λ v below. let a = load_is v below in let b = room_is v below in omega arith;
    floors = floor_is;
  };
  cells = refl;
}

-- ---- a server that is carried over

-- a shard has at most one primary
one_primary : (setup : Setup) (p : Place) (room : ℕ) → IsOpening setup p room → (k u v : ℕ) → p.cells k u ≡ Primary → p.cells k v ≡ Primary → u ≡ v
one_primary setup p room o k u v e f = elim (cases_lt k (sizes_of setup).shards) [
  | inl l ↦ let d = o.settled.leads k l in one_serves d.0 0 (p.cells k) d.2 u v (ap (serves_as (p.cells k) u) e) (ap (serves_as (p.cells k) v) f)
  | inr l ↦ absurd (let z = o.placement.no_shard k u l in cc)
]

not_next : (n : ℕ) → n ≡ suc n → ⊥
not_next n e = absurd (omega arith)

none_may_be : (s : Settlement) → MaySettle given_up_before.reopening given_up_before.world.net.w s → ⊥
none_may_be s m =
    let carried : s.place.cells 0 0 ≡ Primary = m.carried 0 0 refl in
    let told : s.place.cells 0 1 ≡ Primary = m.kept 0 1 (λ k. given_up_before.world.net.cells k 1) (λ k. false) refl in
    not_next 0 (one_primary s.setup s.place s.room m.opening 0 0 1 carried told)

-- and what a carried-over server leaves cannot
pub carried_blocks : CarriedBlocks
carried_blocks = record { carried = refl; told = refl; none = none_may_be }
