-- Lists of named cells, and what it means that no fault is found in them.
use Rattle.std.proofs.Common.{◌≡◌, ℕ, zero, suc, ◌+◌, ◌<◌, ◌≤◌, Bool, true, false, not, cond, eqb, ltb, ◌&&◌, ◌||◌, refl, sym, ap, ◌∙◌, arith, inl, inr, subst, Option, Some, None, List, [], ◌∷◌, ◌++◌, length, get_or, replicate, ◌==◌}
use Rattle.std.specs.Prelude.{option_map, Result, Ok, Err, IfOk, OnOk}
use Rattle.std.specs.List.{count_by, list_any}
use Rattle.std.proofs.Math.Path.{fun_ext}
use Rattle.std.proofs.lemmas.List.Sums.{sum_by-cons}
use Rattle.std.proofs.lemmas.Bool.{cases_eq, cases_lt, cases_Bool, or_parts, and_parts, not-false, eqb-true, ltb-true, ltb-false, eq-eqb, ne_eqb}
use Rattle.sm_server.specs.declared.call.Cell.{Cell}
use Rattle.sm_server.specs.declared.call.Cell.TheVariants.{Absent}
use Rattle.sm_server.specs.Cell.{is_primary}
use Rattle.sm_placement.specs.declared.opening.OpenFault.{OpenFault}
use Rattle.sm_placement.specs.declared.opening.OpenFault.TheVariants.{TooMany, UnknownName, DoubleCell, BadLead, BadListing, OverRoom, Short, TooManyDown}
use Rattle.sm_placement.specs.Setup.{Sizes, sizes_of}
use Rattle.sm_placement.specs.Sums.{put2, count_below, bit, any_below, first_from}
use Rattle.sm_placement.specs.Place.{Place, down_count}
use Rattle.sm_placement.specs.Layout.{PlacementModel, IsPlacement, entries_of, place_of}
use Rattle.sm_placement.specs.Grid.{TableModel, IsGrid, cells_of, lasts_of, down_of}
use Rattle.sm_placement.proofs.GridLemmas.{entries_of-is, entries_of-empty, entries_of-past}
use Rattle.sm_placement.specs.Lead.{IsSettled}
use Rattle.sm_placement.specs.Opening.{NamedCell, Opening, is_of, cell_named, opened_place, is_wrong_size, is_unknown, is_unknown_cell, AreKnown, IsNamedOnce, has_unknown_id, is_double, is_handing, tally, put_all, first_below, double_of, has_bad_lead, has_bad_listing, is_over_room, is_short, first_fault, fault_if, list_faults, standing_faults, open_fault, unpublished}
use Rattle.sm_placement.proofs.Sums.{put2-here, put2-row, put2-apart, sum_apart, same_sum}
use Rattle.sm_placement.proofs.Searches.{none_mapped, first_none, first_from_none, any_none, count_none}
use Rattle.sm_placement.proofs.Settling.{settled_from}

-- a named cell that is of a pair names the shard and the server of that pair
pub is_of-true : (s v : ℕ) (x : NamedCell) → is_of s v x ≡ true → (x.0 ≡ s) × (x.1 ≡ v)
is_of-true s v x e = let p = and_parts (eqb x.0 s) (eqb x.1 v) e in (eqb-true x.0 s p.0, eqb-true x.1 v p.1)

pub is_of-false : (s v : ℕ) (x : NamedCell) → is_of s v x ≡ false → x.0 ≡ s → x.1 ≡ v → ⊥
is_of-false s v x e p q = let t : is_of s v x ≡ true = rw (eq-eqb x.0 s p, eq-eqb x.1 v q) refl in cc

-- a named cell is of the pair that it names
pub is_of-here : (x : NamedCell) → is_of x.0 x.1 x ≡ true
is_of-here x = rw (eq-eqb x.0 x.0 refl, eq-eqb x.1 x.1 refl) refl

known_head : (m n : ℕ) (x : NamedCell) (xs : List NamedCell) → AreKnown m n (x ∷ xs) → (x.0 < m) × (x.1 < n)
known_head m n x xs k =
    let p = or_parts (is_unknown_cell m n x) (list_any (is_unknown_cell m n) xs) k in
    let q = or_parts (not (ltb x.0 m)) (not (ltb x.1 n)) p.0 in
    (ltb-true x.0 m (not-false (ltb x.0 m) q.0), ltb-true x.1 n (not-false (ltb x.1 n) q.1))

known_tail : (m n : ℕ) (x : NamedCell) (xs : List NamedCell) → AreKnown m n (x ∷ xs) → AreKnown m n xs
known_tail m n x xs k = (or_parts (is_unknown_cell m n x) (list_any (is_unknown_cell m n) xs) k).1

-- each id of a list of known ones is below its count
pub known_shard : (m n : ℕ) (xs : List NamedCell) (i : ℕ) (d : NamedCell) → AreKnown m n xs → i < length xs → (get_or xs i d).0 < m
known_shard m n [] i d k l = absurd (omega arith)
known_shard m n (x ∷ xs) zero d k l = (known_head m n x xs k).0
known_shard m n (x ∷ xs) (suc i) d k l = known_shard m n xs i d (known_tail m n x xs k) (omega arith)

-- in a list of known cells the server of each is known
pub known_server : (m n : ℕ) (xs : List NamedCell) (i : ℕ) (d : NamedCell) → AreKnown m n xs → i < length xs → (get_or xs i d).1 < n
known_server m n [] i d k l = absurd (omega arith)
known_server m n (x ∷ xs) zero d k l = (known_head m n x xs k).1
known_server m n (x ∷ xs) (suc i) d k l = known_server m n xs i d (known_tail m n x xs k) (omega arith)

-- a count over a list, by its first element
pub count_yes : {A : Type 0} (p : A → Bool) (x : A) (xs : List A) → p x ≡ true → count_by p (x ∷ xs) ≡ 1 + count_by p xs
count_yes p x xs e = sum_by-cons (λ y. cond (p y) 1 0) x xs ∙ ap (λ b. cond b 1 0 + count_by p xs) e

-- an element that doesn't pass adds nothing to a count
pub count_no : {A : Type 0} (p : A → Bool) (x : A) (xs : List A) → p x ≡ false → count_by p (x ∷ xs) ≡ count_by p xs
count_no p x xs e = sum_by-cons (λ y. cond (p y) 1 0) x xs ∙ ap (λ b. cond b 1 0 + count_by p xs) e ∙ omega arith

-- no cell is named for an unknown pair
pub none_unknown : (m n : ℕ) (xs : List NamedCell) (s v : ℕ) → AreKnown m n xs → (s < m → v < n → ⊥) → count_by (is_of s v) xs ≡ 0
none_unknown m n [] s v k out = refl
none_unknown m n (x ∷ xs) s v k out = elim (cases_Bool (is_of s v x)) [
  | inl e ↦ let at = is_of-true s v x e in let h = known_head m n x xs k in absurd (out (subst (λ y. y < m) at.0 h.0) (subst (λ y. y < n) at.1 h.1))
  | inr e ↦ count_no (is_of s v) x xs e ∙ none_unknown m n xs s v (known_tail m n x xs k) out
]

once_tail : (x : NamedCell) (xs : List NamedCell) → IsNamedOnce (x ∷ xs) → IsNamedOnce xs
once_tail x xs once s v = let h : count_by (is_of s v) (x ∷ xs) ≤ 1 = once s v in elim (cases_Bool (is_of s v x)) [
  | inl e ↦ let g : count_by (is_of s v) (x ∷ xs) ≡ 1 + count_by (is_of s v) xs = count_yes (is_of s v) x xs e in omega arith
  | inr e ↦ let g : count_by (is_of s v) (x ∷ xs) ≡ count_by (is_of s v) xs = count_no (is_of s v) x xs e in omega arith
]

-- a pair that is named first isn't named again
once_head : (x : NamedCell) (xs : List NamedCell) → IsNamedOnce (x ∷ xs) → count_by (is_of x.0 x.1) xs ≡ 0
once_head x xs once =
    let h : count_by (is_of x.0 x.1) (x ∷ xs) ≤ 1 = once x.0 x.1 in
    let g : count_by (is_of x.0 x.1) (x ∷ xs) ≡ 1 + count_by (is_of x.0 x.1) xs = count_yes (is_of x.0 x.1) x xs (is_of-here x) in
    omega arith

-- a pair that the list doesn't name has nothing
pub cell_named-apart : (xs : List NamedCell) (s v : ℕ) → count_by (is_of s v) xs ≡ 0 → cell_named xs s v ≡ Absent
cell_named-apart [] s v e = refl
cell_named-apart (x ∷ xs) s v e = elim (cases_Bool (is_of s v x)) [
  | inl q ↦ let g : count_by (is_of s v) (x ∷ xs) ≡ 1 + count_by (is_of s v) xs = count_yes (is_of s v) x xs q in absurd (omega arith)
  | inr q ↦ rw q (cell_named-apart xs s v (sym (count_no (is_of s v) x xs q) ∙ e))
]

counted : (xs : List NamedCell) (i : ℕ) (d : NamedCell) → i < length xs → 1 ≤ count_by (is_of (get_or xs i d).0 (get_or xs i d).1) xs
counted [] i d l = absurd (omega arith)
counted (x ∷ xs) zero d l = let g : count_by (is_of x.0 x.1) (x ∷ xs) ≡ 1 + count_by (is_of x.0 x.1) xs = count_yes (is_of x.0 x.1) x xs (is_of-here x) in omega arith
counted (x ∷ xs) (suc i) d l =
    let y : NamedCell = get_or xs i d in
    let r : 1 ≤ count_by (is_of y.0 y.1) xs = counted xs i d (omega arith) in
    elim (cases_Bool (is_of y.0 y.1 x)) [
      | inl q ↦ let g : count_by (is_of y.0 y.1) (x ∷ xs) ≡ 1 + count_by (is_of y.0 y.1) xs = count_yes (is_of y.0 y.1) x xs q in omega arith
      | inr q ↦ let g : count_by (is_of y.0 y.1) (x ∷ xs) ≡ count_by (is_of y.0 y.1) xs = count_no (is_of y.0 y.1) x xs q in omega arith
    ]

-- each cell of the list stands where it is named
pub cell_named-at : (xs : List NamedCell) (i : ℕ) (d : NamedCell) → IsNamedOnce xs → i < length xs → cell_named xs (get_or xs i d).0 (get_or xs i d).1 ≡ (get_or xs i d).2
cell_named-at [] i d once l = absurd (omega arith)
cell_named-at (x ∷ xs) zero d once l = rw (is_of-here x) refl
cell_named-at (x ∷ xs) (suc i) d once l =
    let y : NamedCell = get_or xs i d in
    elim (cases_Bool (is_of y.0 y.1 x)) [
      | inl q ↦
          let at = is_of-true y.0 y.1 x q in
          let none : count_by (is_of y.0 y.1) xs ≡ 0 = subst (λ s. count_by (is_of s y.1) xs ≡ 0) at.0 (subst (λ v. count_by (is_of x.0 v) xs ≡ 0) at.1 (once_head x xs once)) in
          let some : 1 ≤ count_by (is_of y.0 y.1) xs = counted xs i d (omega arith) in
          absurd (omega arith)
      | inr q ↦ rw q (cell_named-at xs i d (once_tail x xs once) (omega arith))
    ]

-- a cell is put at one pair alone
put2_of : (f : ℕ → ℕ → Cell) (x : NamedCell) (s v : ℕ) → is_of s v x ≡ false → put2 f x.0 x.1 x.2 s v ≡ f s v
put2_of f x s v e = elim (cases_eq s x.0) [
  | inl d ↦ rw d (put2-row f x.0 x.1 x.2 v (λ g. is_of-false s v x e (sym d) (sym g)))
  | inr d ↦ put2-apart f x.0 x.1 x.2 s v d
]

put_all-apart : (xs : List NamedCell) (f : ℕ → ℕ → Cell) (s v : ℕ) → count_by (is_of s v) xs ≡ 0 → put_all xs f s v ≡ f s v
put_all-apart [] f s v e = refl
put_all-apart (x ∷ xs) f s v e = elim (cases_Bool (is_of s v x)) [
  | inl q ↦ let g : count_by (is_of s v) (x ∷ xs) ≡ 1 + count_by (is_of s v) xs = count_yes (is_of s v) x xs q in absurd (omega arith)
  | inr q ↦ put_all-apart xs (put2 f x.0 x.1 x.2) s v (sym (count_no (is_of s v) x xs q) ∙ e) ∙ put2_of f x s v q
]

put_all-here : (xs : List NamedCell) (f : ℕ → ℕ → Cell) (s v : ℕ) → count_by (is_of s v) xs ≡ 1 → put_all xs f s v ≡ cell_named xs s v
put_all-here [] f s v e = absurd (let z : 0 ≡ 1 = e in omega arith)
put_all-here (x ∷ xs) f s v e = elim (cases_Bool (is_of s v x)) [
  | inl q ↦
      let g : count_by (is_of s v) (x ∷ xs) ≡ 1 + count_by (is_of s v) xs = count_yes (is_of s v) x xs q in
      let at = is_of-true s v x q in
      put_all-apart xs (put2 f x.0 x.1 x.2) s v (omega arith) ∙ rw (q, ← at.0, ← at.1) (put2-here f x.0 x.1 x.2)
  | inr q ↦ rw q (put_all-here xs (put2 f x.0 x.1 x.2) s v (sym (count_no (is_of s v) x xs q) ∙ e))
]

-- cells that are named once each may be put in any order
pub put_all-is : (xs : List NamedCell) → IsNamedOnce xs → put_all xs (λ s v. Absent) ≡ cell_named xs
put_all-is xs once = fun_ext (λ s. fun_ext (λ v. at s v))
  where
    at : (s v : ℕ) → put_all xs (λ s v. Absent) s v ≡ cell_named xs s v
    at s v = let h : count_by (is_of s v) xs ≤ 1 = once s v in elim (cases_eq (count_by (is_of s v) xs) 0) [
      | inl e ↦ put_all-apart xs (λ s v. Absent) s v e ∙ sym (cell_named-apart xs s v e)
      | inr e ↦ put_all-here xs (λ s v. Absent) s v (omega arith)
    ]

-- cells that pass are counted alike in the list and by server
pub tally-is : (t : Cell → Bool) (m n s : ℕ) (xs : List NamedCell) → t Absent ≡ false → AreKnown m n xs → IsNamedOnce xs → tally t s xs ≡ count_below n (λ v. t (cell_named xs s v))
tally-is t m n s [] z k once = sym (count_none n (λ v. t Absent) (λ v l. z))
tally-is t m n s (x ∷ xs) z k once =
    let rest : tally t s xs ≡ count_below n (λ v. t (cell_named xs s v)) = tally-is t m n s xs z (known_tail m n x xs k) (once_tail x xs once) in
    elim (cases_Bool (eqb x.0 s)) [
      | inl q ↦
          let at : x.0 ≡ s = eqb-true x.0 s q in
          let was : bit (t (cell_named xs s x.1)) ≡ 0 = rw (cell_named-apart xs s x.1 (subst (λ r. count_by (is_of r x.1) xs ≡ 0) at (once_head x xs once)), z) refl in
          let now : bit (t (cell_named (x ∷ xs) s x.1)) ≡ bit (t x.2) = rw (q, eq-eqb x.1 x.1 refl) refl in
          let sums : count_below n (λ v. t (cell_named (x ∷ xs) s v)) + 0 ≡ count_below n (λ v. t (cell_named xs s v)) + bit (t x.2) =
          sum_apart n (λ v. bit (t (cell_named (x ∷ xs) s v))) (λ v. bit (t (cell_named xs s v))) x.1 0 (bit (t x.2)) (known_head m n x xs k).1 (λ j e. rw (q, ne_eqb x.1 j (λ d. e (sym d))) refl) (omega arith) in
          elim (cases_Bool (t x.2)) [
            | inl p ↦ let g : tally t s (x ∷ xs) ≡ 1 + tally t s xs = count_yes (λ y. eqb y.0 s && t y.2) x xs (rw (q, p) refl) in let b : bit (t x.2) ≡ 1 = rw p refl in omega arith
            | inr p ↦ let g : tally t s (x ∷ xs) ≡ tally t s xs = count_no (λ y. eqb y.0 s && t y.2) x xs (rw (q, p) refl) in let b : bit (t x.2) ≡ 0 = rw p refl in omega arith
          ]
      | inr q ↦
          let g : tally t s (x ∷ xs) ≡ tally t s xs = count_no (λ y. eqb y.0 s && t y.2) x xs (rw q refl) in
          let same : count_below n (λ v. t (cell_named (x ∷ xs) s v)) ≡ count_below n (λ v. t (cell_named xs s v)) =
          same_sum n (λ v. bit (t (cell_named (x ∷ xs) s v))) (λ v. bit (t (cell_named xs s v))) (λ v l. rw q refl) in
          omega arith
    ]

-- where no pair is found doubled, each is named once at most
pub once_from : (m n : ℕ) (cells : List NamedCell) → AreKnown m n cells → first_from 0 m (double_of n cells) ≡ None → IsNamedOnce cells
once_from m n cells k e s v = elim (cases_lt s m) [
  | inl l ↦ elim (cases_lt v n) [
    | inl h ↦
        let none : first_below n (is_double cells s) ≡ None = none_mapped (λ w. DoubleCell s w) (first_below n (is_double cells s)) (first_from_none (double_of n cells) 0 m e s (omega arith) (omega arith)) in
        ltb-false 1 (count_by (is_of s v) cells) (first_none n (is_double cells s) none v h)
    | inr h ↦ let z : count_by (is_of s v) cells ≡ 0 = none_unknown m n cells s v k (λ a b. absurd (omega arith)) in omega arith
  ]
  | inr l ↦ let z : count_by (is_of s v) cells ≡ 0 = none_unknown m n cells s v k (λ a b. absurd (omega arith)) in omega arith
]

-- a row that has no bad lead has no part of a handover
pub row_rests : (n : ℕ) (row : ℕ → Cell) (v : ℕ) → has_bad_lead n row ≡ false → v < n → is_handing (row v) ≡ false
row_rests n row v e l = any_none n (λ w. is_handing (row w)) (or_parts (ltb 1 (count_below n (λ w. is_primary (row w)))) (any_below n (λ w. is_handing (row w))) e).1 v l

-- where no lead is bad, no named cell has a part in a handover
pub named_rests : (m n : ℕ) (xs : List NamedCell) → AreKnown m n xs → IsNamedOnce xs → first_below m (λ s. has_bad_lead n (cell_named xs s)) ≡ None →
    (i : ℕ) (d : NamedCell) → i < length xs → is_handing (get_or xs i d).2 ≡ false
named_rests m n xs k once e i d l =
    let y : NamedCell = get_or xs i d in
    let rests : is_handing (cell_named xs y.0 y.1) ≡ false =
    row_rests n (cell_named xs y.0) y.1 (first_none m (λ s. has_bad_lead n (cell_named xs s)) e y.0 (known_shard m n xs i d k l)) (known_server m n xs i d k l) in
    rw (cell_named-at xs i d once l) at rests

-- a list of known servers lists no other
pub listed_known : (n : ℕ) (xs : List (Option ℕ)) (s u : ℕ) → list_any (is_unknown n) xs ≡ false → get_or xs s None ≡ Some u → u < n
listed_known n [] s u k e = cc
listed_known n (x ∷ xs) zero u k e = let z = (or_parts (is_unknown n x) (list_any (is_unknown n) xs) k).0 in at x z e
  where
    at : (x : Option ℕ) → is_unknown n x ≡ false → x ≡ Some u → u < n
    at None z e = cc
    at (Some w) z e = let same : w ≡ u = cc in let l : w < n = ltb-true w n (not-false (ltb w n) z) in omega arith
listed_known n (x ∷ xs) (suc s) u k e = listed_known n xs s u (or_parts (is_unknown n x) (list_any (is_unknown n) xs) k).1 e

-- the parts of what is unknown
pub cells_known : (c : Sizes) (o : Opening) → has_unknown_id c o ≡ false → AreKnown c.shards c.servers o.cells
cells_known c o e = (or_parts (list_any (is_unknown_cell c.shards c.servers) o.cells) (list_any (is_unknown c.servers) o.listed || list_any (λ v. not (ltb v c.servers)) o.down) e).0

-- nothing is named beyond the servers and shards
pub opened_nothing : (c : Sizes) (o : Opening) → has_unknown_id c o ≡ false → (s v : ℕ) → c.servers ≤ v → cell_named o.cells s v ≡ Absent
opened_nothing c o unknown s v l = cell_named-apart o.cells s v (none_unknown c.shards c.servers o.cells s v (cells_known c o unknown) (λ a b. absurd (omega arith)))

-- the faults of the lists in their order
pub fault_of_size : (c : Sizes) (o : Opening) → is_wrong_size c o ≡ true → first_fault (list_faults c o) ≡ Some TooMany
fault_of_size c o e = rw e refl

pub fault_of_ids : (c : Sizes) (o : Opening) → is_wrong_size c o ≡ false → has_unknown_id c o ≡ true → first_fault (list_faults c o) ≡ Some UnknownName
fault_of_ids c o e f = rw (e, f) refl

pub fault_of_pairs : (c : Sizes) (o : Opening) (why : OpenFault) → is_wrong_size c o ≡ false → has_unknown_id c o ≡ false → first_from 0 c.shards (double_of c.servers o.cells) ≡ Some why →
    first_fault (list_faults c o) ≡ Some why
fault_of_pairs c o why e f g = rw (e, f, g) refl

pub fault_of_leads : (c : Sizes) (o : Opening) (s : ℕ) → is_wrong_size c o ≡ false → has_unknown_id c o ≡ false → first_from 0 c.shards (double_of c.servers o.cells) ≡ None →
    first_below c.shards (λ r. has_bad_lead c.servers (cell_named o.cells r)) ≡ Some s → first_fault (list_faults c o) ≡ Some (BadLead s)
fault_of_leads c o s e f g h = rw (e, f, g, h) refl

pub no_fault : (c : Sizes) (o : Opening) → is_wrong_size c o ≡ false → has_unknown_id c o ≡ false → first_from 0 c.shards (double_of c.servers o.cells) ≡ None →
    first_below c.shards (λ r. has_bad_lead c.servers (cell_named o.cells r)) ≡ None → first_fault (list_faults c o) ≡ None
no_fault c o e f g h = rw (e, f, g, h) refl

-- what it means that the lists have none
pub record AreGood (c : Sizes) (o : Opening) : Type 0 where
  pub size : is_wrong_size c o ≡ false
  pub ids : has_unknown_id c o ≡ false
  pub pairs : first_from 0 c.shards (double_of c.servers o.cells) ≡ None
  pub leads : first_below c.shards (λ r. has_bad_lead c.servers (cell_named o.cells r)) ≡ None

-- lists in which no fault is found are good
pub good_lists : (c : Sizes) (o : Opening) → first_fault (list_faults c o) ≡ None → AreGood c o
good_lists c o e = go (is_wrong_size c o) (has_unknown_id c o) (first_from 0 c.shards (double_of c.servers o.cells)) (first_below c.shards (λ r. has_bad_lead c.servers (cell_named o.cells r))) refl refl refl refl e
  where
    go : (a b : Bool) (d : Option OpenFault) (h : Option ℕ) → is_wrong_size c o ≡ a → has_unknown_id c o ≡ b → first_from 0 c.shards (double_of c.servers o.cells) ≡ d →
        first_below c.shards (λ r. has_bad_lead c.servers (cell_named o.cells r)) ≡ h →
        first_fault (fault_if a TooMany ∷ fault_if b UnknownName ∷ d ∷ option_map (λ s. BadLead s) h ∷ []) ≡ None → AreGood c o
    go true b d h qa qb qd qh e = cc
    go false true d h qa qb qd qh e = cc
    go false false (Some x) h qa qb qd qh e = cc
    go false false None (Some x) qa qb qd qh e = cc
    go false false None None qa qb qd qh e = record { size = qa; ids = qb; pairs = qd; leads = qh }

first_some-append : (xs ys : List (Option OpenFault)) (why : OpenFault) → first_fault xs ≡ Some why → first_fault (xs ++ ys) ≡ Some why
first_some-append [] ys why e = cc
first_some-append (None ∷ xs) ys why e = first_some-append xs ys why e
first_some-append (Some x ∷ xs) ys why e = e

first_none-append : (xs ys : List (Option OpenFault)) → first_fault xs ≡ None → first_fault (xs ++ ys) ≡ first_fault ys
first_none-append [] ys e = refl
first_none-append (None ∷ xs) ys e = first_none-append xs ys e
first_none-append (Some x ∷ xs) ys e = cc

pub fault_of_lists : (c : Sizes) (o : Opening) (why : OpenFault) → first_fault (list_faults c o) ≡ Some why → open_fault c o ≡ Some why
fault_of_lists c o why e = first_some-append (list_faults c o) (standing_faults c (opened_place o)) why e

-- where the lists have no fault, the first fault is that of the placement that they name
pub fault_of_rest : (c : Sizes) (o : Opening) → first_fault (list_faults c o) ≡ None → open_fault c o ≡ first_fault (standing_faults c (opened_place o))
fault_of_rest c o e = first_none-append (list_faults c o) (standing_faults c (opened_place o)) e

-- what it means that nothing is wrong with the placement itself
pub record Stands (c : Sizes) (p : Place) : Type 0 where
  pub listings : first_below c.shards (λ s. has_bad_listing (p.cells s) (p.listed s)) ≡ None
  pub rooms : first_below c.servers (is_over_room c p.cells) ≡ None
  pub floors : first_below c.shards (is_short c p.cells p.down) ≡ None
  pub few : down_count c p ≤ p.limit

-- a placement in which no fault is found passes each of these tests
pub stands_from : (c : Sizes) (p : Place) → first_fault (standing_faults c p) ≡ None → Stands c p
stands_from c p e =
    go (first_below c.shards (λ s. has_bad_listing (p.cells s) (p.listed s))) (first_below c.servers (is_over_room c p.cells)) (first_below c.shards (is_short c p.cells p.down)) (ltb p.limit (down_count c p)) refl refl refl refl e
  where
    go : (a b d : Option ℕ) (f : Bool) → first_below c.shards (λ s. has_bad_listing (p.cells s) (p.listed s)) ≡ a → first_below c.servers (is_over_room c p.cells) ≡ b →
        first_below c.shards (is_short c p.cells p.down) ≡ d → ltb p.limit (down_count c p) ≡ f →
        first_fault (option_map (λ s. BadListing s) a ∷ option_map (λ v. OverRoom v) b ∷ option_map (λ s. Short s) d ∷ fault_if f TooManyDown ∷ []) ≡ None → Stands c p
    go (Some x) b d f qa qb qd qf e = cc
    go None (Some x) d f qa qb qd qf e = cc
    go None None (Some x) f qa qb qd qf e = cc
    go None None None true qa qb qd qf e = cc
    go None None None false qa qb qd qf e = record { listings = qa; rooms = qb; floors = qd; few = ltb-false p.limit (down_count c p) qf }

-- a table's cells with good listings and loads are a placement
pub grid_placement : (g : TableModel) (listed : List (Option ℕ)) (limit : ℕ) → IsGrid g → length listed ≡ length g.setup.shards → list_any (is_unknown (length g.setup.servers)) listed ≡ false → Stands (sizes_of g.setup) (unpublished g listed limit) →
    IsPlacement (sizes_of g.setup) (unpublished g listed limit)
grid_placement g listed limit is many known stands = record {
  no_server = is.no_server;
  no_shard = is.no_shard;
  no_entry = λ s l. entries_of-past None listed s (omega (arith, many));
  no_down = is.up;
  known = is.known;
  listed = λ s u e. listed_known (length g.setup.servers) listed s u known (sym (entries_of-is None listed s) ∙ e);
  rooms = λ v l. ltb-false _ _ (first_none (length g.setup.servers) (is_over_room (sizes_of g.setup) (cells_of g)) stands.rooms v l);
}

-- the lists of a placement of which nothing has been published
pub unpublished_is : (g : TableModel) (listed : List (Option ℕ)) (versions : List ℕ) (n limit : ℕ) → versions ≡ replicate n 0 →
    place_of (record { setup = g.setup; cells = g.cells; lasts = g.lasts; down = g.down; listed = listed; versions = versions; limit = limit }) ≡ unpublished g listed limit
unpublished_is g listed versions n limit e =
    let none : entries_of 0 versions ≡ (λ s. 0) = rw e (entries_of-empty 0 n) in
    ap (λ (f : ℕ → ℕ). record (unpublished g listed limit) { version = f }) none

-- a table in which the named cells and servers down were put is what is opened
pub unpublished_opened : (c : Sizes) (o : Opening) (g : TableModel) → AreKnown c.shards c.servers o.cells → first_from 0 c.shards (double_of c.servers o.cells) ≡ None → cells_of g ≡ put_all o.cells (λ s v. Absent) →
    lasts_of g ≡ (λ s v. 0) → down_of g ≡ (λ v. list_any (λ x. x == v) o.down) → unpublished g o.listed o.limit ≡ opened_place o
unpublished_opened c o g known pairs cells lasts down =
    ap (λ (f : ℕ → ℕ → Cell). record (unpublished g o.listed o.limit) { cells = f }) (cells ∙ put_all-is o.cells (once_from c.shards c.servers o.cells known pairs))
    ∙ ap (λ (f : ℕ → ℕ → ℕ). record (unpublished g o.listed o.limit) { cells = cell_named o.cells; last = f }) lasts
    ∙ ap (λ (f : ℕ → Bool). record (opened_place o) { down = f }) down

-- what is opened is settled
pub opened_settled : (c : Sizes) (o : Opening) → AreGood c o → first_fault (standing_faults c (opened_place o)) ≡ None → IsSettled c (opened_place o)
opened_settled c o good e =
    let stands = stands_from c (opened_place o) e in
    settled_from c (opened_place o) (opened_nothing c o good.ids) good.leads stands.listings stands.rooms stands.floors stands.few (λ s l. omega arith)

-- where no id is unknown, each listed server is known
pub listings_known : (c : Sizes) (o : Opening) → has_unknown_id c o ≡ false → list_any (is_unknown c.servers) o.listed ≡ false
listings_known c o e = (or_parts (list_any (is_unknown c.servers) o.listed) (list_any (λ v. not (ltb v c.servers)) o.down) (or_parts (list_any (is_unknown_cell c.shards c.servers) o.cells) (list_any (is_unknown c.servers) o.listed || list_any (λ v. not (ltb v c.servers)) o.down) e).1).0

-- what is opened from good lists is settled, where no fault is found in the placement that they name
pub settled_result : (c : Sizes) (o : Opening) (r : Result PlacementModel OpenFault) → AreGood c o → IfOk r (λ p. place_of p ≡ opened_place o) → OnOk r (first_fault (standing_faults c (opened_place o)) ≡ None) →
    IfOk r (λ p. IsSettled c (place_of p))
settled_result c o (Ok p) good at e = subst (λ (q : Place). IsSettled c q) (sym at) (opened_settled c o good e)
settled_result c o (Err why) good at e = tt
