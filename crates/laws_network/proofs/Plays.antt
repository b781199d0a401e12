-- The worked plays of reopenings, computed by the definitions.
use Rattle.std.proofs.Common.{◌≡◌, ◌≢◌, ◌≤◌, ◌<◌, ◌⊎◌, ℕ, refl, inl, inr, subst, arith, not, Bool, true, false, Option, Some, None, ap, sym, ◌∙◌, List, [], ◌∷◌, length}
use Rattle.std.specs.Prelude.{◌==◌, ◌&&◌, is_none, is_some, nat_lt, slice_index_or, if◌then◌else◌}
use Rattle.std.proofs.lemmas.List.{get_or_past}
use Rattle.std.proofs.lemmas.Bool.{and_parts, cases_Bool, cases_eq, cases_lt, eq-eqb, eqb-true, ltb-true, ne_eqb}
use Rattle.sm_server.specs.declared.call.Cell.{Cell}
use Rattle.sm_server.specs.declared.call.Cell.TheVariants.{Absent, Secondary, Primary, Forwarding}
use Rattle.sm_placement.specs.Setup.{IsSetup, Sizes, sizes_of}
use Rattle.sm_placement.specs.Rows.{IsKnownCell}
use Rattle.sm_placement.specs.Lead.{Describes, IsPlain, IsSettled, is_at_rest}
use Rattle.sm_placement.specs.Opening.{is_handing}
use Rattle.sm_placement.specs.declared.lead.Lead.{Lead}
use Rattle.sm_placement.specs.declared.lead.Lead.TheVariants.{At}
use Rattle.sm_placement.specs.Layout.{IsPlacement}
use Rattle.sm_placement.specs.Place.{load_at, live_at}
use Rattle.sm_placement.proofs.SetupLemmas.{setup_from_tests}
use Rattle.sm_protocol.proofs.Courses.{some_same}
use Rattle.laws_network.specs.Words.{IsOpening, State}
use Rattle.laws_network.specs.Reopening.{Inventory, Reopening, Server, Slots, is_asked}
use Rattle.laws_network.specs.ReopeningLaws.{Keeps, MaySettle, claim, claim_of, claim_told, is_carried}
use Rattle.laws_network.specs.ReopeningPlays.{AsksNewcomers, BringsBack, CarriesNoneSettled, MovesNoPrimary, TakesNoOldSettle, TakesNoSettleTwice, all_told, brought, lost_in_handover, the_setup}
use Rattle.laws_network.proofs.Fair.{cells_of}

-- ---- the opening of the first play

below_three : (P : ℕ → Type 0) → P 0 → P 1 → P 2 → (v : ℕ) → v < 3 → P v
below_three P a b c v l = elim (cases_eq v 0) [
  | inl e ↦ subst P (sym e) a
  | inr e ↦ elim (cases_eq v 1) [
    | inl f ↦ subst P (sym f) b
    | inr f ↦ subst P (◌∙◌ {A = ℕ} refl (let z : 2 ≡ v = omega arith in z)) c
  ]
]

-- each cell is one of the first three of the shard, or there is nothing
by_cells : (P : ℕ → ℕ → Cell → Type 0) (row : List Cell) → length row ≤ 3 → ((v : ℕ) → v < 3 → P 0 v (slice_index_or row v Absent)) → ((s v : ℕ) → P s v Absent) →
    (s v : ℕ) → P s v (if s == 0 then slice_index_or row v Absent else Absent)
by_cells P row short here none s v = elim (cases_eq s 0) [
  | inl e ↦ subst (λ a. P a v (if a == 0 then slice_index_or row v Absent else Absent)) (sym e) (elim (cases_lt v 3) [
    | inl l ↦ here v l
    | inr l ↦ subst (P 0 v) (sym (get_or_past row v Absent (omega arith))) (none 0 v)
  ])
  | inr e ↦ subst (P s v) (sym (ap (λ b. if b then slice_index_or row v Absent else Absent) (ne_eqb s 0 e))) (none s v)
]

abbrev sizes : Sizes
sizes = sizes_of the_setup

abbrev row : List Cell
row = Primary ∷ Absent ∷ Secondary ∷ []

setup_is : IsSetup the_setup
setup_is = setup_from_tests the_setup refl refl refl refl

listed_is : (P : ℕ → Option ℕ → Type 0) → P 0 (Some 0) → ((s : ℕ) → s ≢ 0 → P s None) → (s : ℕ) → P s (brought.place.listed s)
listed_is P a b s = elim (cases_eq s 0) [
  | inl e ↦ subst (λ k. P k (brought.place.listed k)) (sym e) a
  | inr e ↦ subst (P s) (sym (ap (λ t. if t then Some 0 else None) (ne_eqb s 0 e))) (b s e)
]

placement_is : IsPlacement sizes brought.place
placement_is = record {
  no_server = by_cells (λ s v c. 3 ≤ v → c ≡ Absent) row (omega arith) (λ v l h. absurd (omega arith)) (λ s v h. refl);
  no_shard = by_cells (λ s v c. 1 ≤ s → c ≡ Absent) row (omega arith) (λ v l h. absurd (omega arith)) (λ s v h. refl);
  no_entry = listed_is (λ s o. 1 ≤ s → o ≡ None) (λ h. absurd (omega arith)) (λ s n h. refl);
  no_down = λ v h. refl;
  known = by_cells (λ s v c. IsKnownCell 3 c) row (omega arith) (below_three (λ v. IsKnownCell 3 (slice_index_or row v Absent)) tt tt tt) (λ s v. tt);
  listed = λ s u. listed_is (λ s o. o ≡ Some u → u < 3) (λ e. let z = some_same 0 u e in omega arith) (λ s n e. absurd (cc)) s;
  rooms = below_three (λ v. load_at sizes brought.place v ≤ sizes.room v) (omega arith) (omega arith) (omega arith);
}

plain_there : (x : ℕ) → x ≢ 0 → IsPlain (slice_index_or row x Absent)
plain_there x n = elim (cases_lt x 3) [
  | inl l ↦ below_three (λ x. x ≢ 0 → IsPlain (slice_index_or row x Absent)) (λ n. absurd (n refl)) (λ n. tt) (λ n. tt) x l n
  | inr l ↦ subst IsPlain (sym (get_or_past row x Absent (omega arith))) tt
]

settled_is : IsSettled sizes brought.place
settled_is = record {
  leads = λ s l. subst (λ k. (lead : Lead) × (is_at_rest lead ≡ true) × Describes lead 0 (brought.place.cells k)) (let z : 0 ≡ s = omega arith in z) (At 0, refl, (refl, plain_there));
  listed = λ s u l. listed_is (λ s o. o ≡ Some u → brought.place.cells s u ≡ Primary) (λ e. subst (λ a. brought.place.cells 0 a ≡ Primary) (some_same 0 u e) refl) (λ s n e. absurd (cc)) s;
  rooms = placement_is.rooms;
  floors = λ s l. subst (λ k. sizes.floor k ≤ live_at sizes brought.place k) (let z : 0 ≡ s = omega arith in z) (omega arith);
  down = omega arith;
  versions = λ s l. omega arith;
}

opening_is : IsOpening the_setup brought.place brought.room
opening_is = record { rows = setup_is; placement = placement_is; settled = settled_is; least = omega arith; most = omega arith }

-- ---- what was told

abbrev r : Reopening
r = lost_in_handover.reopening

abbrev w : State
w = lost_in_handover.world.net.w

-- what server 0 has told, and what server 2 has
abbrev slots : ℕ → Inventory
slots v = Slots (λ s. lost_in_handover.world.net.cells s v) (λ s. false)

abbrev told_by : Bool → Bool → Option Inventory
told_by second first = if second then Some (slots 2) else if first then Some (slots 0) else None

told_is : (v : ℕ) → r.told (Server v) ≡ told_by (v == 2) (v == 0)
told_is v = refl

told_at : (v : ℕ) (i : Inventory) → r.told (Server v) ≡ Some i → ((v ≡ 0) × (i ≡ slots 0)) ⊎ ((v ≡ 2) × (i ≡ slots 2))
told_at v i e = elim (cases_eq v 2) [
  | inl a ↦ inr (a, some_same i (slots 2) (sym e ∙ ap (λ b. told_by b (v == 0)) (eq-eqb v 2 a)))
  | inr a ↦ elim (cases_eq v 0) [
    | inl b ↦ inl (b, some_same i (slots 0) (sym e ∙ ap (λ b. told_by b (v == 0)) (ne_eqb v 2 a) ∙ ap (told_by false) (eq-eqb v 0 b)))
    | inr b ↦ absurd (let z : Some i ≡ None = sym e ∙ ap (λ b. told_by b (v == 0)) (ne_eqb v 2 a) ∙ ap (told_by false) (ne_eqb v 0 b) in cc)
  ]
]

none_carried : (v : ℕ) → is_carried r w v ≡ true → ⊥
none_carried v e =
    let a = (and_parts (is_asked r (Server v)) (is_none (r.told (Server v)) && (false && not (r.promised v))) e).1 in
    let b = (and_parts (is_none (r.told (Server v))) (false && not (r.promised v)) a).1 in
    absurd (cc)

kept_there : (k v : ℕ) (cells : ℕ → Cell) (reached : ℕ → Bool) → r.told (Server v) ≡ Some (Slots cells reached) → Keeps (cells k) (brought.place.cells k v)
kept_there k v cells reached e = elim (told_at v (Slots cells reached) e) [
  | inl h ↦ subst (λ a. Keeps (cells k) (brought.place.cells k a)) (sym h.0) (subst (λ i. Keeps (cells_of i k) (brought.place.cells k 0)) (sym h.1) (zeroth (k == 0)))
  | inr h ↦ subst (λ a. Keeps (cells k) (brought.place.cells k a)) (sym h.0) (subst (λ i. Keeps (cells_of i k) (brought.place.cells k 2)) (sym h.1) (second (k == 0)))
]
  where
    zeroth : (b : Bool) → Keeps (if b then Forwarding 1 1 else Absent) (if b then Primary else Absent)
    zeroth true = inl refl
    zeroth false = refl

    second : (b : Bool) → Keeps (if b then Secondary else Absent) (if b then Secondary else Absent)
    second true = inl refl
    second false = refl

primary_there : (k v : ℕ) → brought.place.cells k v ≡ Primary → (k ≡ 0) × (v ≡ 0)
primary_there = by_cells (λ s v c. c ≡ Primary → (s ≡ 0) × (v ≡ 0)) row (omega arith)
    (below_three (λ v. slice_index_or row v Absent ≡ Primary → (0 ≡ 0) × (v ≡ 0)) (λ e. (refl, refl)) (λ e. absurd (cc)) (λ e. absurd (cc))) (λ s v e. absurd (cc))

claims_there : (k u v : ℕ) → brought.place.cells k v ≡ Primary → 0 < claim_of r w k u → 0 < claim_of r w k v
claims_there k u v e some =
    let p = primary_there k v e in
    let three : 0 < claim_of r w 0 0 = omega arith in
    subst (λ a. 0 < claim_of r w a v) (sym p.0) (subst (λ a. 0 < claim_of r w 0 a) (sym p.1) three)

handed_there : (k v : ℕ) (cells : ℕ → Cell) (reached : ℕ → Bool) → r.told (Server v) ≡ Some (Slots cells reached) → is_handing (cells k) ≡ true → (u : ℕ) × (brought.place.cells k u ≡ Primary)
handed_there k v cells reached e h = (
  0,
  elim (told_at v (Slots cells reached) e) [
    | inl a ↦ zeroth (k == 0) (ap (λ i. is_handing (cells_of i k)) (sym a.1) ∙ h)
    | inr a ↦ second (k == 0) (ap (λ i. is_handing (cells_of i k)) (sym a.1) ∙ h)
  ],
)
  where
    zeroth : (b : Bool) → is_handing (if b then Forwarding 1 1 else Absent) ≡ true → (if b then Primary else Absent) ≡ Primary
    zeroth true e = refl
    zeroth false e = absurd (cc)

    second : (b : Bool) → is_handing (if b then Secondary else Absent) ≡ true → (if b then Primary else Absent) ≡ Primary
    second true e = absurd (cc)
    second false e = absurd (cc)

answered_there : (v : ℕ) → is_asked r (Server v) ≡ true → (is_some (r.told (Server v)) ≡ true) ⊎ (is_carried r w v ≡ true)
answered_there v e =
    let a = and_parts (nat_lt v 3) (not (v == 1)) e in
    below_three (λ v. not (v == 1) ≡ true → (is_some (r.told (Server v)) ≡ true) ⊎ (is_carried r w v ≡ true)) (λ n. inl refl) (λ n. absurd (cc)) (λ n. inl refl) v (ltb-true v 3 a.0) a.1

lost_there : (k v : ℕ) → r.lost v ≡ true → brought.place.cells k v ≡ Absent
lost_there k v e = subst (λ a. brought.place.cells k a ≡ Absent) (sym (eqb-true v 1 e)) (go (k == 0))
  where
    go : (b : Bool) → (if b then Absent else Absent) ≡ Absent
    go true = refl
    go false = refl

allowed : MaySettle r w brought
allowed = record {
  first = refl;
  opening = opening_is;
  servers = omega arith;
  map = refl;
  answered = answered_there;
  kept = kept_there;
  carried = λ k v e. absurd (none_carried v e);
  down = λ v e. absurd (none_carried v e);
  lost = lost_there;
  claims = claims_there;
  handed = handed_there;
}

-- the shard is brought back
pub brings_back : BringsBack
brings_back = record { allowed = allowed; executes = refl; shown = refl; cells = refl; settled = refl }

-- no settlement moves a primary
pub moves_no_primary : MovesNoPrimary
moves_no_primary = ((λ m. let z : Secondary ≡ Primary = m.kept 0 0 (λ s. all_told.world.net.cells s 0) (λ s. false) refl in absurd (cc)), (refl, refl, λ e. absurd (cc)))

-- no old settle is taken
pub takes_no_old_settle : TakesNoOldSettle
takes_no_old_settle = (refl, (refl, refl, λ e. absurd (cc)))

-- no settle is taken twice
pub takes_no_settle_twice : TakesNoSettleTwice
takes_no_settle_twice = (refl, (refl, refl, λ e. absurd (cc)))

-- none that was sent a settle is carried over
pub carries_none_settled : CarriesNoneSettled
carries_none_settled = ((λ m. elim (m.answered 1 refl) [ inl e ↦ absurd (cc) | inr e ↦ absurd (cc) ]), (refl, refl, λ e. absurd (cc)))

-- servers of replaced documents are asked
pub asks_newcomers : AsksNewcomers
asks_newcomers = (refl, (refl, refl, λ e. absurd (cc)))
