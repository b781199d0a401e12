-- The first row that passes a test, and the lowest key that is not kept.
use Rattle.std.proofs.Common.{◌≡◌, ℕ, Bool, true, false, Option, Some, None, List, [], ◌∷◌, refl, sym, ap, ◌∙◌, inl, inr}
use Rattle.std.specs.Prelude.{IfSome, IfNone, find, not, option_map}
use Rattle.std.proofs.lemmas.Bool.{cases_Bool, not-true, not-false}
use Rattle.sm_reservation.specs.declared.right.CellRight.{CellRight}
use Rattle.sm_reservation.specs.declared.right.Crown.{Crown}
use Rattle.sm_reservation.specs.declared.right.Key.{Key}
use Rattle.sm_reservation.specs.declared.right.Key.TheVariants as key
use Rattle.sm_reservation.specs.Rights.{Rights}
use Rattle.sm_reservation.specs.Rows.{same, before, row_at, Rises}
use Rattle.sm_reservation.specs.Key.{key_of_cell, key_of_crown, key_before}
use Rattle.sm_reservation.proofs.Places.{same_here, same_is, same_sym, before_not_same}
use Rattle.sm_reservation.proofs.RowLemmas.{none_after, AllAfter-trans}
use Rattle.sm_verifier.specs.Finding.{first_cell, first_crown}
use Rattle.sm_verifier.specs.Admission.{IsLowestKey}
use Rattle.sm_placement.proofs.Searches.{none_mapped}

-- a row that passes, and none at a lower key does
pub record IsFirstRow {T : Type 0} (key_of : T → ℕ × ℕ) (test : T → Bool) (xs : List T) (x : T) : Type 0 where
  pub passes : test x ≡ true
  pub here : row_at key_of xs (key_of x) ≡ Some x
  pub below : (q : ℕ × ℕ) → before q (key_of x) ≡ true → IfSome (row_at key_of xs q) (λ y. test y ≡ false)

pub first_row : {T : Type 0} (key_of : T → ℕ × ℕ) (test : T → Bool) (xs : List T) (x : T) → Rises key_of xs → find test xs ≡ Some x → IsFirstRow key_of test xs x
first_row key_of test [] x rises e = cc
first_row key_of test (y ∷ ys) x rises e = elim (cases_Bool (test y)) [
  | inl passed ↦
      let is : y ≡ x = (let z = rw passed at e in cc) in
      rw (← is) (record {
        passes = passed;
        here = rw (same_here (key_of y)) refl;
        below = λ q b.
            let apart : same (key_of y) q ≡ false = same_sym (key_of y) q ∙ before_not_same q (key_of y) b in
            rw (apart, none_after key_of q q ys (AllAfter-trans key_of q (key_of y) ys b rises.0) (same_here q)) tt;
      })
  | inr failed ↦
      let rest = first_row key_of test ys x rises.1 (rw failed at e) in
      record {
        passes = rest.passes;
        here = elim (cases_Bool (same (key_of y) (key_of x))) [
          | inl f ↦ absurd (let wrong = sym rest.here ∙ none_after key_of (key_of y) (key_of x) ys rises.0 f in cc)
          | inr f ↦ rw f rest.here
        ];
        below = λ q b. elim (cases_Bool (same (key_of y) q)) [
          | inl f ↦ rw f failed
          | inr f ↦ rw f (rest.below q b)
        ];
      }
]

-- where none passes
pub no_row : {T : Type 0} (key_of : T → ℕ × ℕ) (test : T → Bool) (xs : List T) → find test xs ≡ None → (q : ℕ × ℕ) → IfSome (row_at key_of xs q) (λ y. test y ≡ false)
no_row key_of test [] e q = tt
no_row key_of test (y ∷ ys) e q = elim (cases_Bool (test y)) [
  | inl passed ↦ absurd (let z = rw passed at e in cc)
  | inr failed ↦ elim (cases_Bool (same (key_of y) q)) [
    | inl f ↦ rw f failed
    | inr f ↦ rw f (no_row key_of test ys (rw failed at e) q)
  ]
]

-- the row at a key is of that key
pub row_is : {T : Type 0} (key_of : T → ℕ × ℕ) (xs : List T) (q : ℕ × ℕ) (y : T) → row_at key_of xs q ≡ Some y → key_of y ≡ q
row_is key_of [] q y e = cc
row_is key_of (x ∷ xs) q y e = elim (cases_Bool (same (key_of x) q)) [
  | inl f ↦ let is : x ≡ y = (let z = rw f at e in cc) in rw (← is) (same_is (key_of x) q f)
  | inr f ↦ row_is key_of xs q y (rw f at e)
]

-- Tests of cell rights and of crowns say whether something is kept at their keys. At other keys it is kept.
pub record Judges (r : Rights) (cell : CellRight → Bool) (crown : Crown → Bool) (Kept : Key → Type 0) : Type 0 where
  pub no_cell : (s v : ℕ) → row_at key_of_cell r.cells (s, v) ≡ None → Kept (key.CellRight s v)
  pub cell_yes : (x : CellRight) → row_at key_of_cell r.cells (x.shard, x.server) ≡ Some x → cell x ≡ true → Kept (key.CellRight x.shard x.server)
  pub cell_no : (x : CellRight) → row_at key_of_cell r.cells (x.shard, x.server) ≡ Some x → cell x ≡ false → ¬ Kept (key.CellRight x.shard x.server)
  pub no_crown : (s : ℕ) → row_at key_of_crown r.crowns (s, 0) ≡ None → Kept (key.Crown s)
  pub crown_yes : (x : Crown) → row_at key_of_crown r.crowns (x.shard, 0) ≡ Some x → crown x ≡ true → Kept (key.Crown x.shard)
  pub crown_no : (x : Crown) → row_at key_of_crown r.crowns (x.shard, 0) ≡ Some x → crown x ≡ false → ¬ Kept (key.Crown x.shard)
  pub room : (v : ℕ) → Kept (key.Room v)
  pub spare : (s : ℕ) → Kept (key.Spare s)

cell_moved : (Kept : Key → Type 0) (a b s v : ℕ) → ◌≡◌ {A = ℕ × ℕ} (a, b) (s, v) → Kept (key.CellRight a b) → Kept (key.CellRight s v)
cell_moved Kept a b s v e k = let d : a ≡ s = ap (λ (q : ℕ × ℕ). q.0) e in let f : b ≡ v = ap (λ (q : ℕ × ℕ). q.1) e in rw (← d, ← f) k

crown_moved : (Kept : Key → Type 0) (a s : ℕ) → ◌≡◌ {A = ℕ × ℕ} (a, 0) (s, 0) → Kept (key.Crown a) → Kept (key.Crown s)
crown_moved Kept a s e k = let d : a ≡ s = ap (λ (q : ℕ × ℕ). q.0) e in rw (← d) k

cell_kept : (r : Rights) (cell : CellRight → Bool) (crown : Crown → Bool) (Kept : Key → Type 0) → Judges r cell crown Kept → (s v : ℕ) → (o : Option CellRight) → row_at key_of_cell r.cells (s, v) ≡ o → IfSome o (λ y. not (cell y) ≡ false) → Kept (key.CellRight s v)
cell_kept r cell crown Kept j s v None e t = j.no_cell s v e
cell_kept r cell crown Kept j s v (Some y) e t =
    let here : ◌≡◌ {A = ℕ × ℕ} (y.shard, y.server) (s, v) = row_is key_of_cell r.cells (s, v) y e in
    cell_moved Kept y.shard y.server s v here (j.cell_yes y (ap (row_at key_of_cell r.cells) here ∙ e) (not-false (cell y) t))

crown_kept : (r : Rights) (cell : CellRight → Bool) (crown : Crown → Bool) (Kept : Key → Type 0) → Judges r cell crown Kept → (s : ℕ) → (o : Option Crown) → row_at key_of_crown r.crowns (s, 0) ≡ o → IfSome o (λ y. not (crown y) ≡ false) → Kept (key.Crown s)
crown_kept r cell crown Kept j s None e t = j.no_crown s e
crown_kept r cell crown Kept j s (Some y) e t =
    let here : ◌≡◌ {A = ℕ × ℕ} (y.shard, 0) (s, 0) = row_is key_of_crown r.crowns (s, 0) y e in
    crown_moved Kept y.shard s here (j.crown_yes y (ap (row_at key_of_crown r.crowns) here ∙ e) (not-false (crown y) t))

-- a cell right that does not pass
pub cell_lowest : (r : Rights) (cell : CellRight → Bool) (crown : Crown → Bool) (Kept : Key → Type 0) → Judges r cell crown Kept → Rises key_of_cell r.cells → (k : Key) → first_cell cell r.cells ≡ Some k → IsLowestKey Kept k
cell_lowest r cell crown Kept j rises k e = go (find (λ x. not (cell x)) r.cells) refl e
  where
    under : (x : CellRight) → IsFirstRow key_of_cell (λ x. not (cell x)) r.cells x → (lower : Key) → key_before lower (key.CellRight x.shard x.server) ≡ true → Kept lower
    under x first (key.CellRight s v) b = cell_kept r cell crown Kept j s v (row_at key_of_cell r.cells (s, v)) refl (first.below (s, v) b)
    under x first (key.Crown s) b = cc
    under x first (key.Room v) b = j.room v
    under x first (key.Spare s) b = j.spare s

    go : (o : Option CellRight) → find (λ x. not (cell x)) r.cells ≡ o → option_map (λ x. key.CellRight x.shard x.server) o ≡ Some k → IsLowestKey Kept k
    go None f g = cc
    go (Some x) f g =
        let first = first_row key_of_cell (λ x. not (cell x)) r.cells x rises f in
        let is : key.CellRight x.shard x.server ≡ k = cc in
        rw (← is) (record {
          broken = j.cell_no x first.here (not-true (cell x) first.passes);
          below = λ lower. under x first lower;
        })

cells_kept : (r : Rights) (cell : CellRight → Bool) (crown : Crown → Bool) (Kept : Key → Type 0) → Judges r cell crown Kept → first_cell cell r.cells ≡ None → (s v : ℕ) → Kept (key.CellRight s v)
cells_kept r cell crown Kept j e s v =
    let none : find (λ x. not (cell x)) r.cells ≡ None = none_mapped (λ x. key.CellRight x.shard x.server) _ e in
    cell_kept r cell crown Kept j s v (row_at key_of_cell r.cells (s, v)) refl (no_row key_of_cell (λ x. not (cell x)) r.cells none (s, v))

-- a crown that does not pass, where all cell rights do
pub crown_lowest : (r : Rights) (cell : CellRight → Bool) (crown : Crown → Bool) (Kept : Key → Type 0) → Judges r cell crown Kept → Rises key_of_crown r.crowns → first_cell cell r.cells ≡ None → (k : Key) → first_crown crown r.crowns ≡ Some k → IsLowestKey Kept k
crown_lowest r cell crown Kept j rises cells k e = go (find (λ x. not (crown x)) r.crowns) refl e
  where
    under : (x : Crown) → IsFirstRow key_of_crown (λ x. not (crown x)) r.crowns x → (lower : Key) → key_before lower (key.Crown x.shard) ≡ true → Kept lower
    under x first (key.CellRight s v) b = cells_kept r cell crown Kept j cells s v
    under x first (key.Crown s) b = crown_kept r cell crown Kept j s (row_at key_of_crown r.crowns (s, 0)) refl (first.below (s, 0) (rw b refl))
    under x first (key.Room v) b = j.room v
    under x first (key.Spare s) b = j.spare s

    go : (o : Option Crown) → find (λ x. not (crown x)) r.crowns ≡ o → option_map (λ x. key.Crown x.shard) o ≡ Some k → IsLowestKey Kept k
    go None f g = cc
    go (Some x) f g =
        let first = first_row key_of_crown (λ x. not (crown x)) r.crowns x rises f in
        let is : key.Crown x.shard ≡ k = cc in
        rw (← is) (record {
          broken = j.crown_no x first.here (not-true (crown x) first.passes);
          below = λ lower. under x first lower;
        })

-- everything passes
pub all_kept : (r : Rights) (cell : CellRight → Bool) (crown : Crown → Bool) (Kept : Key → Type 0) → Judges r cell crown Kept → first_cell cell r.cells ≡ None → first_crown crown r.crowns ≡ None → (k : Key) → Kept k
all_kept r cell crown Kept j cells crowns (key.CellRight s v) = cells_kept r cell crown Kept j cells s v
all_kept r cell crown Kept j cells crowns (key.Crown s) =
    let none : find (λ x. not (crown x)) r.crowns ≡ None = none_mapped (λ x. key.Crown x.shard) _ crowns in
    crown_kept r cell crown Kept j s (row_at key_of_crown r.crowns (s, 0)) refl (no_row key_of_crown (λ x. not (crown x)) r.crowns none (s, 0))
all_kept r cell crown Kept j cells crowns (key.Room v) = j.room v
all_kept r cell crown Kept j cells crowns (key.Spare s) = j.spare s

-- an answer of the crowns, where all cell rights pass
pub crowns_lowest : (r : Rights) (cell : CellRight → Bool) (crown : Crown → Bool) (Kept : Key → Type 0) → Judges r cell crown Kept → Rises key_of_crown r.crowns → first_cell cell r.cells ≡ None → (o : Option Key) → o ≡ first_crown crown r.crowns → IfSome o (IsLowestKey Kept)
crowns_lowest r cell crown Kept j rises cells None e = tt
crowns_lowest r cell crown Kept j rises cells (Some k) e = crown_lowest r cell crown Kept j rises cells k (sym e)

-- where all cell rights pass and the crowns give no answer, everything is kept
pub crowns_none : (r : Rights) (cell : CellRight → Bool) (crown : Crown → Bool) (Kept : Key → Type 0) → Judges r cell crown Kept → first_cell cell r.cells ≡ None → (o : Option Key) → o ≡ first_crown crown r.crowns → IfNone o ((k : Key) → Kept k)
crowns_none r cell crown Kept j cells None e = all_kept r cell crown Kept j cells (sym e)
crowns_none r cell crown Kept j cells (Some k) e = tt
