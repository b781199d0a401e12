-- A placement is settled exactly where the tests of its opening find nothing.
use Rattle.std.proofs.Common.{◌≡◌, ℕ, ◌<◌, ◌≤◌, ◌^◌, Bool, true, false, not, ltb, ◌||◌, refl, sym, ◌∙◌, arith, inl, inr, subst, ◌⊎◌, ◌↔◌, Option, Some, None, List, length, get_or}
use Rattle.std.specs.Prelude.{IsTrue, is_some}
use Rattle.std.specs.List.{All}
use Rattle.std.proofs.lemmas.List.{get_or_default}
use Rattle.std.proofs.lemmas.Bool.{cases_eq, cases_lt, or_parts, or_from, false_from_ne_true, ltb-false, le-ltb, not-false}
use Rattle.sm_server.specs.declared.call.Cell.{Cell}
use Rattle.sm_server.specs.declared.call.Cell.TheVariants.{Absent, Prepared, Secondary, Primary, Forwarding}
use Rattle.sm_server.specs.Cell.{is_primary, is_prepared, is_forwarding}
use Rattle.sm_placement.specs.declared.lead.Lead.{Lead}
use Rattle.sm_placement.specs.declared.lead.Lead.TheVariants.{Gone, At, Ready, Handing, Handed}
use Rattle.sm_placement.specs.Setup.{Sizes, sizes_of}
use Rattle.sm_placement.specs.Sums.{count_below, any_below}
use Rattle.sm_placement.specs.Place.{Place, load_of, down_count}
use Rattle.sm_placement.specs.Layout.{PlacementModel, place_of, entries_of, IsPlacement}
use Rattle.sm_placement.proofs.GridLemmas.{entries_of-is}
use Rattle.sm_placement.specs.Lead.{IsPlain, Describes, is_at_rest, IsSettled}
use Rattle.sm_placement.specs.Opening.{first_below, has_bad_lead, has_bad_listing, is_over_room, is_short}
use Rattle.sm_placement.proofs.Searches.{cases_Option, first_none, first_none_from, any_none, any_none_from, count_two, count_one, count_none, first_some}

-- a cell that has no part in a handover and is no primary is plain
pub plain_from : (x : Cell) → is_primary x ≡ false → (is_prepared x || is_forwarding x) ≡ false → IsPlain x
plain_from Absent p h = tt
plain_from Secondary p h = tt
plain_from Primary p h = cc
plain_from (Prepared a b) p h = cc
plain_from (Forwarding a b) p h = cc

pub primary_from : (x : Cell) → is_primary x ≡ true → x ≡ Primary
primary_from Primary e = refl
primary_from Absent e = cc
primary_from Secondary e = cc
primary_from (Prepared a b) e = cc
primary_from (Forwarding a b) e = cc

-- a plain cell is no primary, and has no part in a handover
plain_not_primary : (x : Cell) → IsPlain x → is_primary x ≡ false
plain_not_primary Absent h = refl
plain_not_primary Secondary h = refl
plain_not_primary Primary h = absurd h
plain_not_primary (Prepared a b) h = refl
plain_not_primary (Forwarding a b) h = refl

plain_not_handing : (x : Cell) → IsPlain x → (is_prepared x || is_forwarding x) ≡ false
plain_not_handing Absent h = refl
plain_not_handing Secondary h = refl
plain_not_handing Primary h = refl
plain_not_handing (Prepared a b) h = absurd h
plain_not_handing (Forwarding a b) h = absurd h

-- a row with at most one primary and no handover is described by a lead at rest
pub rest_from : (n m : ℕ) (row : ℕ → Cell) → ((v : ℕ) → n ≤ v → row v ≡ Absent) → has_bad_lead n row ≡ false → (lead : Lead) × (is_at_rest lead ≡ true) × Describes lead m row
rest_from n m row out e = elim (cases_Option (first_below n primary)) [
  | inl q ↦ (Gone, refl, λ x. plain x (first_none n primary q x))
  | inr q ↦
      let u : ℕ = q.0 in
      let at = first_some n primary u q.1 in (
        At u,
        refl,
        (
          primary_from (row u) at.1,
          λ x d. plain x (λ l. false_from_ne_true (primary x) (λ t.
              let two : 2 ≤ count_below n primary = count_two n primary x u l at.0 d t at.1 in
              let one : count_below n primary ≤ 1 = ltb-false 1 (count_below n primary) few in
              absurd (omega arith))),
        ),
      )
]
  where
    primary : ℕ → Bool
    primary v = is_primary (row v)

    handing : ℕ → Bool
    handing v = is_prepared (row v) || is_forwarding (row v)

    few : ltb 1 (count_below n primary) ≡ false
    few = (or_parts (ltb 1 (count_below n primary)) (any_below n handing) e).0

    none : any_below n handing ≡ false
    none = (or_parts (ltb 1 (count_below n primary)) (any_below n handing) e).1

    plain : (x : ℕ) → (x < n → primary x ≡ false) → IsPlain (row x)
    plain x h = elim (cases_lt x n) [
      | inl l ↦ plain_from (row x) (h l) (any_none n handing none x l)
      | inr l ↦ rw (out x l) tt
    ]

-- such a row has none of the faults
pub rest_to : (n m : ℕ) (row : ℕ → Cell) (lead : Lead) → is_at_rest lead ≡ true → Describes lead m row → has_bad_lead n row ≡ false
rest_to n m row lead r d = go lead r d
  where
    primary : ℕ → Bool
    primary v = is_primary (row v)

    handing : ℕ → Bool
    handing v = is_prepared (row v) || is_forwarding (row v)

    both : count_below n primary ≤ 1 → ((x : ℕ) → handing x ≡ false) → has_bad_lead n row ≡ false
    both few none = or_from (ltb 1 (count_below n primary)) (any_below n handing) (le-ltb 1 (count_below n primary) few) (any_none_from n handing (λ k l. none k))

    go : (lead : Lead) → is_at_rest lead ≡ true → Describes lead m row → has_bad_lead n row ≡ false
    go Gone r d = both (let z : count_below n primary ≡ 0 = count_none n primary (λ k l. plain_not_primary (row k) (d k)) in omega arith) (λ x. plain_not_handing (row x) (d x))
    go (At u) r d = both (count_one n primary u (λ k l e. plain_not_primary (row k) (d.1 k e))) (λ x. elim (cases_eq x u) [
      | inl q ↦ rw (q, d.0) refl
      | inr q ↦ plain_not_handing (row x) (d.1 x q)
    ])
    go (Ready u v) r d = cc
    go (Handing u v) r d = cc
    go (Handed u v) r d = cc

-- a placement in which no test finds a fault is settled
pub settled_from : (c : Sizes) (p : Place) → ((s v : ℕ) → c.servers ≤ v → p.cells s v ≡ Absent) →
    first_below c.shards (λ s. has_bad_lead c.servers (p.cells s)) ≡ None →
    first_below c.shards (λ s. has_bad_listing (p.cells s) (p.listed s)) ≡ None →
    first_below c.servers (is_over_room c p.cells) ≡ None →
    first_below c.shards (is_short c p.cells p.down) ≡ None →
    down_count c p ≤ p.limit → ((s : ℕ) → s < c.shards → p.version s ≤ 2 ^ 40) → IsSettled c p
settled_from c p out leads listings rooms floors down versions = record {
  leads = λ s l. rest_from c.servers 0 (p.cells s) (out s) (first_none c.shards (λ k. has_bad_lead c.servers (p.cells k)) leads s l);
  listed = λ s u l e. listing (p.cells s) u (let z = first_none c.shards (λ k. has_bad_listing (p.cells k) (p.listed k)) listings s l in rw e at z);
  rooms = λ v l. ltb-false (c.room v) (load_of c p.cells v) (first_none c.servers (is_over_room c p.cells) rooms v l);
  floors = λ s l. ltb-false _ (c.floor s) (first_none c.shards (is_short c p.cells p.down) floors s l);
  down = down;
  versions = versions;
}
  where
    listing : (row : ℕ → Cell) (u : ℕ) → not (is_primary (row u)) ≡ false → row u ≡ Primary
    listing row u e = primary_from (row u) (not-false (is_primary (row u)) e)

-- in a settled placement no shard has a bad lead
pub settled_leads : (c : Sizes) (p : Place) → IsSettled c p → first_below c.shards (λ s. has_bad_lead c.servers (p.cells s)) ≡ None
settled_leads c p is = first_none_from c.shards (λ s. has_bad_lead c.servers (p.cells s)) (λ s l. let lead = is.leads s l in rest_to c.servers 0 (p.cells s) lead.0 lead.1 lead.2)

-- in a settled placement no shard has a bad listing
pub settled_listings : (c : Sizes) (p : Place) → IsSettled c p → first_below c.shards (λ s. has_bad_listing (p.cells s) (p.listed s)) ≡ None
settled_listings c p is = first_none_from c.shards (λ s. has_bad_listing (p.cells s) (p.listed s)) (λ s l. go s l (cases_Option (p.listed s)))
  where
    go : (s : ℕ) → s < c.shards → (p.listed s ≡ None) ⊎ ((u : ℕ) × (p.listed s ≡ Some u)) → has_bad_listing (p.cells s) (p.listed s) ≡ false
    go s l (inl q) = rw q refl
    go s l (inr q) = rw (q.1, is.listed s q.0 l q.1) refl

-- in a settled placement no shard has fewer live replicas than its floor
pub settled_floors : (c : Sizes) (p : Place) → IsSettled c p → first_below c.shards (is_short c p.cells p.down) ≡ None
settled_floors c p is = first_none_from c.shards (is_short c p.cells p.down) (λ s l. le-ltb _ (c.floor s) (is.floors s l))

-- no load of a placement is above its room
pub rooms_hold : (c : Sizes) (p : Place) → IsPlacement c p → first_below c.servers (is_over_room c p.cells) ≡ None
rooms_hold c p is = first_none_from c.servers (is_over_room c p.cells) (λ v l. le-ltb (c.room v) (load_of c p.cells v) (is.rooms v l))

-- the versions are low exactly where each entry of their list is
pub versions_low : (n : ℕ) (versions : List ℕ) → length versions ≡ n → All (λ v. v ≤ 2 ^ 40) versions → (s : ℕ) → s < n → entries_of 0 versions s ≤ 2 ^ 40
versions_low n versions e all s l = rw (entries_of-is 0 versions s) (all s 0 (rw e l))

-- versions that are at most 2^40 at each shard are so throughout their list
pub low_versions : (n : ℕ) (versions : List ℕ) → length versions ≡ n → ((s : ℕ) → s < n → entries_of 0 versions s ≤ 2 ^ 40) → All (λ v. v ≤ 2 ^ 40) versions
low_versions n versions e low k d l =
    let at : get_or versions k d ≡ entries_of 0 versions k = get_or_default versions k d 0 l ∙ sym (entries_of-is 0 versions k) in
    let m : entries_of 0 versions k ≤ 2 ^ 40 = low k (rw (← e) l) in
    rw at m

-- what a test of an option says
pub none_found : {A : Type 0} (o : Option A) (b : Bool) → b ≡ is_some o → b ≡ false → o ≡ None
none_found None b e f = refl
none_found (Some x) b e f = cc

-- a search that finds nothing can't be told to have found something
pub some_found : {A : Type 0} (o : Option A) (b : Bool) → b ≡ is_some o → b ≡ true → o ≡ None → ⊥
some_found None b e f g = cc
some_found (Some x) b e f g = cc

-- Facts about the lists are facts about the placement as its callers see it.
pub settled_read : {l now : PlacementModel} → l ≡ now → IsSettled (sizes_of now.setup) (place_of now) → IsSettled (sizes_of l.setup) (place_of l)
settled_read {l} {now} e = subst (λ (n : PlacementModel). IsSettled (sizes_of n.setup) (place_of n) → IsSettled (sizes_of l.setup) (place_of l)) e (λ is. is)

-- what is settled is settled as it is seen
pub settled_seen : {l now : PlacementModel} → l ≡ now → IsSettled (sizes_of l.setup) (place_of l) → IsSettled (sizes_of now.setup) (place_of now)
settled_seen {l} {now} e is = subst (λ (n : PlacementModel). IsSettled (sizes_of n.setup) (place_of n)) e is

-- to answer no is right of what is not settled
pub not_settled : {l now : PlacementModel} → l ≡ now → (IsSettled (sizes_of l.setup) (place_of l) → ⊥) → IsTrue false ↔ IsSettled (sizes_of now.setup) (place_of now)
not_settled {l} {now} e never = (λ t. absurd (cc), λ is. absurd (never (settled_read e is)))
