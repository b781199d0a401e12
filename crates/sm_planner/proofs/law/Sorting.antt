-- Rows in the order of their keys: which row stands at a key, and that no key stands twice.
use Rattle.std.proofs.Common.{◌≡◌, ◌≢◌, ℕ, zero, suc, ◌<◌, ◌≤◌, Bool, true, false, Some, List, [], ◌∷◌, ◌++◌, length, get_or, refl, sym, ap, ◌∙◌, arith, inl, inr, ◌⊎◌, subst}
use Rattle.std.specs.Prelude.{Contains, filter, map, count_by}
use Rattle.std.proofs.lemmas.Bool.{cases_Bool, cases_eq, both_ways}
use Rattle.std.proofs.lemmas.List.Sums.{sum_by-cons, sum_by-append}
use Rattle.sm_reservation.specs.Rows.{same, before, row_at, AllAfter, Rises}
use Rattle.sm_reservation.specs.InOrder.{sorted}
use Rattle.sm_reservation.proofs.Places.{same_here, same_trans, same_is, before_not_same}
use Rattle.sm_reservation.proofs.ElementLemmas.{later, same_elements}
use Rattle.sm_reservation.proofs.SortedRows.{sorted_permutes, sorted_rises}
use Rattle.sm_planner.proofs.law.Gathered.{hit, gathered, gathered_own, gathered_other, StandsIn, stands_left, stands_right}

-- ---- elements

pub contains_from : {T : Type 0} (x : T) (xs : List T) → StandsIn x xs → Contains xs x
contains_from x [] s = absurd s
contains_from x (y ∷ xs) s = elim s [ inl here ↦ (0, omega arith, here) | inr there ↦ later x y xs (contains_from x xs there) ]

-- what a list contains stands in it
pub stands_from : {T : Type 0} (x : T) (xs : List T) → Contains xs x → StandsIn x xs
stands_from x xs c = go xs c.0 c.1 c.2
  where
    go : (xs : List _) (k : ℕ) → k < length xs → get_or xs k x ≡ x → StandsIn x xs
    go [] k l e = absurd (omega arith)
    go (y ∷ xs) zero l e = inl e
    go (y ∷ xs) (suc k) l e = inr (go xs k (omega arith) e)

pub stands_either : {T : Type 0} (x : T) (xs ys : List T) → StandsIn x (xs ++ ys) → StandsIn x xs ⊎ StandsIn x ys
stands_either x [] ys s = inr s
stands_either x (y ∷ xs) ys s = elim s [
  | inl here ↦ inl (inl here)
  | inr there ↦ elim (stands_either x xs ys there) [ inl front ↦ inl (inr front) | inr back ↦ inr back ]
]

-- an element that passes stands among those that pass
pub stands_kept : {T : Type 0} (test : T → Bool) (x : T) (xs : List T) → test x ≡ true → StandsIn x xs → StandsIn x (filter test xs)
stands_kept test x [] passes s = absurd s
stands_kept test x (y ∷ xs) passes s = elim s [
  | inl here ↦ (let passed : test y ≡ true = ap test here ∙ passes in rw passed (inl here))
  | inr there ↦ elim (cases_Bool (test y)) [
    | inl passed ↦ rw passed (inr (stands_kept test x xs passes there))
    | inr failed ↦ rw failed (stands_kept test x xs passes there)
  ]
]

-- what stands among those that pass stands in the list
pub stood : {T : Type 0} (test : T → Bool) (x : T) (xs : List T) → StandsIn x (filter test xs) → StandsIn x xs
stood test x [] s = absurd s
stood test x (y ∷ xs) s = elim (cases_Bool (test y)) [
  | inl passed ↦ elim (rw passed at s) [ inl here ↦ inl here | inr there ↦ inr (stood test x xs there) ]
  | inr failed ↦ inr (stood test x xs (rw failed at s))
]

-- what stands in a mapped list is the image of an element that stands in the list
pub stands_mapped : {T U : Type 0} (f : U → T) (x : T) (xs : List U) → StandsIn x (map f xs) → (u : U) × StandsIn u xs × (f u ≡ x)
stands_mapped f x [] s = absurd s
stands_mapped f x (u ∷ xs) s = elim s [
  | inl here ↦ (u, inl refl, here)
  | inr there ↦ (let more = stands_mapped f x xs there in (more.0, inr more.1, more.2))
]

-- what stands in a part stands in the list that is gathered for the part's class
pub stands_gathered : {T : Type 0} (class : ℕ → ℕ) (part : ℕ → List T) (i k n : ℕ) (x : T) → k < n → class k ≡ i → StandsIn x (part k) → StandsIn x (gathered class part n i)
stands_gathered class part i k zero x l own s = absurd (omega arith)
stands_gathered class part i k (suc n) x l own s = elim (cases_eq k n) [
  | inl same ↦
      let at : StandsIn x (part n) = subst (λ j. StandsIn x (part j)) same s in
      subst (λ xs. StandsIn x xs) (sym (gathered_own class part n i (ap class (sym same) ∙ own))) (stands_right x (gathered class part n i) (part n) at)
  | inr less ↦
      let low = stands_gathered class part i k n x (omega arith) own s in
      elim (cases_eq (class n) i) [
        | inl mine ↦ subst (λ xs. StandsIn x xs) (sym (gathered_own class part n i mine)) (stands_left x (gathered class part n i) (part n) low)
        | inr other ↦ subst (λ xs. StandsIn x xs) (sym (gathered_other class part n i other)) low
      ]
]

-- what stands in a gathered list stands in a part of its class
pub gathered_from : {T : Type 0} (class : ℕ → ℕ) (part : ℕ → List T) (i n : ℕ) (x : T) → StandsIn x (gathered class part n i) → (k : ℕ) × (k < n) × (class k ≡ i) × StandsIn x (part k)
gathered_from class part i zero x s = absurd s
gathered_from class part i (suc n) x s = elim (cases_eq (class n) i) [
  | inl mine ↦ elim (stands_either x (gathered class part n i) (part n) (subst (λ xs. StandsIn x xs) (gathered_own class part n i mine) s)) [
    | inl low ↦ (let more = gathered_from class part i n x low in let l = more.1 in (more.0, omega arith, more.2, more.3))
    | inr last ↦ (n, omega arith, mine, last)
  ]
  | inr other ↦ (let more = gathered_from class part i n x (subst (λ xs. StandsIn x xs) (gathered_other class part n i other) s) in let l = more.1 in (more.0, omega arith, more.2, more.3))
]

-- ---- keys that stand once

-- no key stands twice
abbrev pub IsKeyedOnce : {T : Type 0} → (T → ℕ × ℕ) → List T → Type 0
IsKeyedOnce {T} key_of xs = (q : ℕ × ℕ) → count_by (λ y. same (key_of y) q) xs ≤ 1

counted_there : {T : Type 0} (test : T → Bool) (xs : List T) → 0 < count_by test xs → (x : T) × StandsIn x xs × (test x ≡ true)
counted_there test [] l = absurd (omega arith)
counted_there test (x ∷ xs) l = elim (cases_Bool (test x)) [
  | inl passes ↦ (x, inl refl, passes)
  | inr fails ↦
      let a = sum_by-cons (λ x. hit (test x)) x xs in
      let none : hit (test x) ≡ 0 = ap hit fails in
      let more = counted_there test xs (omega arith) in
      (more.0, inr more.1, more.2)
]

-- two lists with no key twice, and none in common, have no key twice together
pub once_both : {T : Type 0} (key_of : T → ℕ × ℕ) (xs ys : List T) → IsKeyedOnce key_of xs → IsKeyedOnce key_of ys → ((x y : T) → StandsIn x xs → StandsIn y ys → same (key_of x) (key_of y) ≡ false) → IsKeyedOnce key_of (xs ++ ys)
once_both key_of xs ys one two apart q =
    let a = sum_by-append (λ y. hit (same (key_of y) q)) xs ys in
    let m = one q in
    let n = two q in
    elim (cases_eq (count_by (λ y. same (key_of y) q) xs) 0) [
      | inl none ↦ omega arith
      | inr some ↦ elim (cases_eq (count_by (λ y. same (key_of y) q) ys) 0) [
        | inl none ↦ omega arith
        | inr others ↦
            let x = counted_there (λ y. same (key_of y) q) xs (omega arith) in
            let y = counted_there (λ y. same (key_of y) q) ys (omega arith) in
            absurd (both_ways (same (key_of x.0) (key_of y.0)) (apart x.0 y.0 x.1 y.1) (same_trans (key_of x.0) (key_of y.0) q x.2 y.2))
      ]
    ]

-- one row alone has no key twice
pub once_single : {T : Type 0} (key_of : T → ℕ × ℕ) (x : T) → IsKeyedOnce key_of (x ∷ [])
once_single key_of x q = elim (cases_Bool (same (key_of x) q)) [ inl yes_so ↦ rw yes_so (omega arith) | inr not_so ↦ rw not_so (omega arith) ]

-- parts with no key twice, and none in common, have no key twice once they are gathered
pub once_gathered : {T : Type 0} (key_of : T → ℕ × ℕ) (class : ℕ → ℕ) (part : ℕ → List T) (i n : ℕ) → ((k : ℕ) → k < n → IsKeyedOnce key_of (part k)) →
    ((j k : ℕ) → j < n → k < n → j ≢ k → (x y : T) → StandsIn x (part j) → StandsIn y (part k) → same (key_of x) (key_of y) ≡ false) → IsKeyedOnce key_of (gathered class part n i)
once_gathered key_of class part i zero each apart = λ q. omega arith
once_gathered key_of class part i (suc n) each apart =
    let low = once_gathered key_of class part i n (λ k l. each k (omega arith)) (λ j k l m. apart j k (omega arith) (omega arith)) in
    elim (cases_eq (class n) i) [
      | inl mine ↦ subst (λ xs. IsKeyedOnce key_of xs) (sym (gathered_own class part n i mine)) (once_both key_of (gathered class part n i) (part n) low (each n (omega arith)) (λ x y s t.
          let from = gathered_from class part i n x s in
          let l = from.1 in
          apart from.0 n (omega arith) (omega arith) (λ e. absurd (omega arith)) x y from.3 t))
      | inr other ↦ subst (λ xs. IsKeyedOnce key_of xs) (sym (gathered_other class part n i other)) low
    ]

-- ---- the row at a key

after_all : {T : Type 0} (key_of : T → ℕ × ℕ) (p : ℕ × ℕ) (xs : List T) (x : T) → AllAfter key_of p xs → StandsIn x xs → before p (key_of x) ≡ true
after_all key_of p [] x a s = absurd s
after_all key_of p (y ∷ xs) x a s = elim s [ inl here ↦ subst (λ z. before p (key_of z) ≡ true) here a.0 | inr there ↦ after_all key_of p xs x a.1 there ]

-- in rows in order the row at an element's key is the element
pub row_is : {T : Type 0} (key_of : T → ℕ × ℕ) (xs : List T) (x : T) → Rises key_of xs → StandsIn x xs → row_at key_of xs (key_of x) ≡ Some x
row_is key_of [] x r s = absurd s
row_is key_of (y ∷ xs) x r s = elim s [
  | inl here ↦ (let at : same (key_of y) (key_of x) ≡ true = ap (λ z. same (key_of z) (key_of x)) here ∙ same_here (key_of x) in rw at (ap Some here))
  | inr there ↦ (let past : same (key_of y) (key_of x) ≡ false = before_not_same (key_of y) (key_of x) (after_all key_of (key_of y) xs x r.0 there) in rw past (row_is key_of xs x r.1 there))
]

-- the row at a key stands in the rows and has that key
pub row_from : {T : Type 0} (key_of : T → ℕ × ℕ) (xs : List T) (q : ℕ × ℕ) (x : T) → row_at key_of xs q ≡ Some x → StandsIn x xs × (key_of x ≡ q)
row_from key_of [] q x e = absurd cc
row_from key_of (y ∷ xs) q x e = elim (cases_Bool (same (key_of y) q)) [
  | inl here ↦ (let it : y ≡ x = (let z = rw here at e in cc) in (inl it, ap key_of (sym it) ∙ same_is (key_of y) q here))
  | inr other ↦ (let more = row_from key_of xs q x (rw other at e) in (inr more.0, more.1))
]

-- what stands in a list stands in it in order
pub in_sorted : {T : Type 0} (key_of : T → ℕ × ℕ) (xs : List T) (x : T) → StandsIn x xs → StandsIn x (sorted key_of xs)
in_sorted key_of xs x s = stands_from x (sorted key_of xs) ((same_elements xs (sorted key_of xs) (sorted_permutes key_of xs) x).0 (contains_from x xs s))

-- what stands in a list in order stands in the list
pub from_sorted : {T : Type 0} (key_of : T → ℕ × ℕ) (xs : List T) (x : T) → StandsIn x (sorted key_of xs) → StandsIn x xs
from_sorted key_of xs x s = stands_from x xs ((same_elements xs (sorted key_of xs) (sorted_permutes key_of xs) x).1 (contains_from x (sorted key_of xs) s))

-- where no key stands twice, the row at an element's key in the sorted list is the element
pub sorted_row_is : {T : Type 0} (key_of : T → ℕ × ℕ) (xs : List T) (x : T) → IsKeyedOnce key_of xs → StandsIn x xs → row_at key_of (sorted key_of xs) (key_of x) ≡ Some x
sorted_row_is key_of xs x once s = row_is key_of (sorted key_of xs) x (sorted_rises key_of xs (λ y. once (key_of y))) (in_sorted key_of xs x s)

-- the row at a key in the sorted list stands in the list and has that key
pub sorted_row_from : {T : Type 0} (key_of : T → ℕ × ℕ) (xs : List T) (q : ℕ × ℕ) (x : T) → row_at key_of (sorted key_of xs) q ≡ Some x → StandsIn x xs × (key_of x ≡ q)
sorted_row_from key_of xs q x e =
    let found = row_from key_of (sorted key_of xs) q x e in
    (from_sorted key_of xs x found.0, found.1)
