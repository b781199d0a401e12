-- Elements of a list, filtered or put in order.
use Rattle.std.proofs.Common.{◌≡◌, ℕ, zero, suc, ◌<◌, nat_lt, Bool, true, List, [], ◌∷◌, length, get_or, refl, arith, inl, inr}
use Rattle.std.specs.List.{Contains, filter}
use Rattle.std.specs.List.Sorted.{IsPermutation}
use Rattle.std.proofs.lemmas.Bool.{cases_Bool, ltb-true}
use Rattle.std.proofs.lemmas.List.Sorted.{Contains-permutation, IsPermutation-sym}
use Rattle.sm_reservation.specs.Rows.{AllAfter, Rises, HasPositive}
use Rattle.sm_reservation.specs.Key.{SameElements}

-- what a list contains it contains with one element more in front
pub later : {T : Type 0} (x y : T) (xs : List T) → Contains xs x → Contains (y ∷ xs) x
later x y xs h = (suc h.0, omega (arith, h.1), h.2)

kept : {T : Type 0} (p : T → Bool) (x : T) (xs : List T) (k : ℕ) → k < length xs → get_or xs k x ≡ x → p x ≡ true → Contains (filter p xs) x
kept p x [] k lt e t = absurd (omega arith)
kept p x (y ∷ ys) zero lt e t = rw (e, t) (zero, omega arith, refl)
kept p x (y ∷ ys) (suc k) lt e t =
    let rest = kept p x ys k (omega arith) e t in
    elim (cases_Bool (p y)) [
      | inl s ↦ rw s (later x y (filter p ys) rest)
      | inr s ↦ rw s rest
    ]

was : {T : Type 0} (p : T → Bool) (x : T) (xs : List T) (k : ℕ) → k < length (filter p xs) → get_or (filter p xs) k x ≡ x → Contains xs x × (p x ≡ true)
was p x [] k lt e = absurd (omega arith)
was p x (y ∷ ys) zero lt e = elim (cases_Bool (p y)) [
  | inl s ↦ let it : y ≡ x = rw s at e in ((zero, omega arith, it), rw (← it) s)
  | inr s ↦ let r = was p x ys zero (rw s at lt) (rw s at e) in (later x y ys r.0, r.1)
]
was p x (y ∷ ys) (suc k) lt e = elim (cases_Bool (p y)) [
  | inl s ↦ let less = rw s at lt in let r = was p x ys k (omega arith) (rw s at e) in (later x y ys r.0, r.1)
  | inr s ↦ let r = was p x ys (suc k) (rw s at lt) (rw s at e) in (later x y ys r.0, r.1)
]

moved : {T : Type 0} (p : T → Bool) (xs ys : List T) (x : T) → IsPermutation xs ys → Contains (filter p xs) x → Contains (filter p ys) x
moved p xs ys x perm h =
    let r = was p x xs h.0 h.1 h.2 in
    let there = Contains-permutation xs ys x perm r.0 in
    kept p x ys there.0 there.1 there.2 r.1

-- a list and what it becomes in another order have the same elements
pub same_elements : {T : Type 0} (xs ys : List T) → IsPermutation xs ys → SameElements xs ys
same_elements xs ys perm x = (Contains-permutation xs ys x perm, Contains-permutation ys xs x (IsPermutation-sym xs ys perm))

-- and so have those elements of the two that pass a test
pub same_kept : {T : Type 0} (p : T → Bool) (xs ys : List T) → IsPermutation xs ys → SameElements (filter p xs) (filter p ys)
same_kept p xs ys perm x = (moved p xs ys x perm, moved p ys xs x (IsPermutation-sym xs ys perm))

-- ---- rows of a positive amount

after_kept : {T : Type 0} (key_of : T → ℕ × ℕ) (p : T → Bool) (k : ℕ × ℕ) (xs : List T) → AllAfter key_of k xs → AllAfter key_of k (filter p xs)
after_kept key_of p k [] a = tt
after_kept key_of p k (x ∷ xs) a = elim (cases_Bool (p x)) [
  | inl s ↦ rw s (a.0, after_kept key_of p k xs a.1)
  | inr s ↦ rw s (after_kept key_of p k xs a.1)
]

-- rows that rise still do where some of them are left out
pub rises_kept : {T : Type 0} (key_of : T → ℕ × ℕ) (p : T → Bool) (xs : List T) → Rises key_of xs → Rises key_of (filter p xs)
rises_kept key_of p [] r = tt
rises_kept key_of p (x ∷ xs) r = elim (cases_Bool (p x)) [
  | inl s ↦ rw s (after_kept key_of p (key_of x) xs r.0, rises_kept key_of p xs r.1)
  | inr s ↦ rw s (rises_kept key_of p xs r.1)
]

-- where rows of 0 are left out, all amounts are positive
pub positive_kept : {T : Type 0} (amount : T → ℕ) (xs : List T) → HasPositive amount (filter (λ x. nat_lt 0 (amount x)) xs)
positive_kept amount [] = tt
positive_kept amount (x ∷ xs) = elim (cases_Bool (nat_lt 0 (amount x))) [
  | inl s ↦ rw s (ltb-true 0 (amount x) s, positive_kept amount xs)
  | inr s ↦ rw s (positive_kept amount xs)
]
