-- Rows in the order of their keys, and neighbours of one key.
use Rattle.std.proofs.Common.{◌≡◌, ℕ, suc, ◌+◌, ◌<◌, ◌≤◌, true, false, cond, Some, None, List, [], ◌∷◌, length, get_or, drop, refl, sym, ◌∙◌, arith, inl, inr, is_lt, nat_cmp, drop-cons, add-one, length-drop}
use Rattle.std.specs.Ordering.{ordering_then}
use Rattle.std.specs.List.{count_by}
use Rattle.std.specs.List.Sorted.{IsPermutation}
use Rattle.std.proofs.lemmas.List.Recursion.{is_count_by}
use Rattle.std.proofs.lemmas.List.Sorted.{sum_by-IsPermutation}
use Rattle.std.proofs.lemmas.Bool.{cases_Bool}
use Rattle.std.proofs.lemmas.Bool.Decides.{nat_tests}
use Rattle.sm_reservation.specs.Rows.{same, before, AllAfter, Rises, ClimbsFrom, Climbs, first_twin_from, first_twin}
use Rattle.sm_reservation.proofs.Places.{same_here, same_sym, before_from_not, apart_after as apart_above}
use Rattle.sm_reservation.proofs.RowLemmas.{AllAfter-trans}

-- how many rows stand at a key
abbrev pub count_at : {T : Type 0} → (T → ℕ × ℕ) → ℕ × ℕ → List T → ℕ
count_at key_of q [] = 0
count_at key_of q (x ∷ xs) = cond (same (key_of x) q) (1 + count_at key_of q xs) (count_at key_of q xs)

-- it is the number of rows that pass the test of the key
pub count_at_is : {T : Type 0} (key_of : T → ℕ × ℕ) (q : ℕ × ℕ) (xs : List T) → count_at key_of q xs ≡ count_by (λ x. same (key_of x) q) xs
count_at_is key_of q xs = is_count_by (count_at key_of q) (λ x. same (key_of x) q) refl (λ x ys. refl) xs

-- how often a key stands, before a list was put in order
pub count_before_sort : {T : Type 0} (key_of : T → ℕ × ℕ) (q : ℕ × ℕ) (xs ys : List T) → IsPermutation xs ys → count_by (λ x. same (key_of x) q) xs ≡ count_at key_of q ys
count_before_sort key_of q xs ys p = sym (sum_by-IsPermutation (λ x. cond (same (key_of x) q) 1 0) xs ys p) ∙ sym (count_at_is key_of q ys)

-- ---- the order that a sort leaves

not_before : (p q : ℕ × ℕ) → is_lt (ordering_then (nat_cmp p.0 q.0) (nat_cmp p.1 q.1)) ≡ false → before p q ≡ false
not_before p q e = grind (arith, nat_tests)

climbs_from : {T : Type 0} (key_of : T → ℕ × ℕ) (x : T) (xs : List T) → ((k : ℕ) (d : T) → suc k < length (x ∷ xs) → before (key_of (get_or (x ∷ xs) (suc k) d)) (key_of (get_or (x ∷ xs) k d)) ≡ false) → ClimbsFrom key_of x xs
climbs_from key_of x [] h = tt
climbs_from key_of x (y ∷ ys) h = (h 0 x (omega arith), climbs_from key_of y ys (λ k d lt. h (suc k) d (omega arith)))

climbs_all : {T : Type 0} (key_of : T → ℕ × ℕ) (xs : List T) → ((k : ℕ) (d : T) → suc k < length xs → before (key_of (get_or xs (suc k) d)) (key_of (get_or xs k d)) ≡ false) → Climbs key_of xs
climbs_all key_of [] h = tt
climbs_all key_of (x ∷ xs) h = climbs_from key_of x xs h

-- rows climb where none is less than the one ahead of it, in the order that they were sorted by
pub climbs : {T : Type 0} (key_of : T → ℕ × ℕ) (xs : List T) → ((k : ℕ) (d : T) → 0 ≤ k → k + 1 < length xs → is_lt (ordering_then (nat_cmp (key_of (get_or xs (k + 1) d)).0 (key_of (get_or xs k d)).0) (nat_cmp (key_of (get_or xs (k + 1) d)).1 (key_of (get_or xs k d)).1)) ≡ false) → Climbs key_of xs
climbs key_of xs h = climbs_all key_of xs (λ k d lt. not_before (key_of (get_or xs (suc k) d)) (key_of (get_or xs k d)) (rw add-one at (h k d (omega arith) (omega arith))))

-- ---- the search for neighbours of one key

two_at : {T : Type 0} (xs : List T) (k : ℕ) (a b : T) → suc k < length xs → a ≡ get_or xs k a → b ≡ get_or xs (suc k) b → drop k xs ≡ a ∷ b ∷ drop (suc (suc k)) xs
two_at xs k a b lt ea eb =
    let first : drop k xs ≡ get_or xs k a ∷ drop (suc k) xs = drop-cons xs k a (omega arith) in
    let second : drop (suc k) xs ≡ get_or xs (suc k) b ∷ drop (suc (suc k)) xs = drop-cons xs (suc k) b lt in
    first ∙ (rw (← ea, second, ← eb) refl)

-- where the rows at a position and behind it share a key, it is the first that is shared from there on
pub twin_here : {T : Type 0} (key_of : T → ℕ × ℕ) (xs : List T) (k : ℕ) (a b : T) → suc k < length xs → a ≡ get_or xs k a → b ≡ get_or xs (suc k) b → same (key_of a) (key_of b) ≡ true → first_twin key_of (drop k xs) ≡ Some (key_of b)
twin_here key_of xs k a b lt ea eb s = rw (two_at xs k a b lt ea eb, s) refl

-- where they do not, the first that is shared is found from the next position on
pub twin_past : {T : Type 0} (key_of : T → ℕ × ℕ) (xs : List T) (k : ℕ) (a b : T) → suc k < length xs → a ≡ get_or xs k a → b ≡ get_or xs (suc k) b → same (key_of a) (key_of b) ≡ false → first_twin key_of (drop k xs) ≡ first_twin key_of (drop (suc k) xs)
twin_past key_of xs k a b lt ea eb s =
    let second : drop (suc k) xs ≡ get_or xs (suc k) b ∷ drop (suc (suc k)) xs = drop-cons xs (suc k) b lt in
    rw (two_at xs k a b lt ea eb, s, second, ← eb) refl

short_no_twin : {T : Type 0} (key_of : T → ℕ × ℕ) (xs : List T) → length xs ≤ 1 → first_twin key_of xs ≡ None
short_no_twin key_of [] le = refl
short_no_twin key_of (x ∷ []) le = refl
short_no_twin key_of (x ∷ y ∷ ys) le = absurd (omega arith)

-- from the last row on no key is shared
pub no_twin_left : {T : Type 0} (key_of : T → ℕ × ℕ) (xs : List T) (k : ℕ) → length xs ≤ suc k → first_twin key_of (drop k xs) ≡ None
no_twin_left key_of xs k le = short_no_twin key_of (drop k xs) (omega (arith, length-drop k xs))

-- ---- rows in order without neighbours of one key

pub rises_from : {T : Type 0} (key_of : T → ℕ × ℕ) (x : T) (xs : List T) → ClimbsFrom key_of x xs → first_twin_from key_of x xs ≡ None → Rises key_of (x ∷ xs)
rises_from key_of x [] c none = (tt, tt)
rises_from key_of x (y ∷ ys) c none = elim (cases_Bool (same (key_of x) (key_of y))) [
  | inl s ↦ let wrong = rw s at none in cc
  | inr s ↦
      let up : before (key_of x) (key_of y) ≡ true = before_from_not (key_of y) (key_of x) c.0 (same_sym (key_of y) (key_of x) ∙ s) in
      let rest = rises_from key_of y ys c.1 (rw s at none) in
      ((up, AllAfter-trans key_of (key_of x) (key_of y) ys up rest.0), rest)
]

-- rows that climb, of which no neighbours share a key, rise
pub rises : {T : Type 0} (key_of : T → ℕ × ℕ) (xs : List T) → Climbs key_of xs → first_twin key_of xs ≡ None → Rises key_of xs
rises key_of [] c none = tt
rises key_of (x ∷ xs) c none = rises_from key_of x xs c none

none_at : {T : Type 0} (key_of : T → ℕ × ℕ) (k q : ℕ × ℕ) (xs : List T) → AllAfter key_of k xs → same k q ≡ true → count_at key_of q xs ≡ 0
none_at key_of k q [] a s = refl
none_at key_of k q (x ∷ xs) a s = rw (apart_above k (key_of x) q a.0 s) (none_at key_of k q xs a.1 s)

-- in rows that rise no key stands twice
pub once_at : {T : Type 0} (key_of : T → ℕ × ℕ) (q : ℕ × ℕ) (xs : List T) → Rises key_of xs → count_at key_of q xs ≤ 1
once_at key_of q [] r = omega arith
once_at key_of q (x ∷ xs) r = elim (cases_Bool (same (key_of x) q)) [
  | inl s ↦ rw s (omega (arith, none_at key_of (key_of x) q xs r.0 s))
  | inr s ↦ rw s (omega (arith, once_at key_of q xs r.1))
]

-- ---- the lowest key of two rows

below_from : (q y z : ℕ × ℕ) → before q y ≡ true → before z y ≡ false → before q z ≡ true
below_from q y z a b = grind (arith, nat_tests)

before_apart : (q y : ℕ × ℕ) → before q y ≡ true → same y q ≡ false
before_apart q y a = grind (arith, nat_tests)

same_before : (x y q : ℕ × ℕ) → same x y ≡ true → before q y ≡ true → before q x ≡ true
same_before x y q s b = grind (arith, nat_tests)

same_below : (x y q : ℕ × ℕ) → same x q ≡ true → before x y ≡ true → before q y ≡ true
same_below x y q s b = grind (arith, nat_tests)

none_below : {T : Type 0} (key_of : T → ℕ × ℕ) (q : ℕ × ℕ) (y : T) (ys : List T) → ClimbsFrom key_of y ys → before q (key_of y) ≡ true → count_at key_of q (y ∷ ys) ≡ 0
none_below key_of q y [] c b = rw (before_apart q (key_of y) b) refl
none_below key_of q y (z ∷ zs) c b = rw (before_apart q (key_of y) b) (none_below key_of q z zs c.1 (below_from q (key_of y) (key_of z) b c.0))

pub twice_from : {T : Type 0} (key_of : T → ℕ × ℕ) (x : T) (xs : List T) (p : ℕ × ℕ) → first_twin_from key_of x xs ≡ Some p → 2 ≤ count_at key_of p (x ∷ xs)
twice_from key_of x [] p e = cc
twice_from key_of x (y ∷ ys) p e = elim (cases_Bool (same (key_of x) (key_of y))) [
  | inl s ↦
      let it : key_of y ≡ p = let f = rw s at e in cc in
      rw (← it, s, same_here (key_of y)) (omega arith)
  | inr s ↦ elim (cases_Bool (same (key_of x) p)) [
    | inl t ↦ rw t (omega (arith, twice_from key_of y ys p (rw s at e)))
    | inr t ↦ rw t (omega (arith, twice_from key_of y ys p (rw s at e)))
  ]
]

pub lowest_from : {T : Type 0} (key_of : T → ℕ × ℕ) (x : T) (xs : List T) (p q : ℕ × ℕ) → ClimbsFrom key_of x xs → first_twin_from key_of x xs ≡ Some p → before q p ≡ true → count_at key_of q (x ∷ xs) ≤ 1
lowest_from key_of x [] p q c e b = cc
lowest_from key_of x (y ∷ ys) p q c e b = elim (cases_Bool (same (key_of x) (key_of y))) [
  | inl s ↦
      let it : key_of y ≡ p = let f = rw s at e in cc in
      let low : before q (key_of y) ≡ true = rw it b in
      rw (before_apart q (key_of x) (same_before (key_of x) (key_of y) q s low)) (omega (arith, none_below key_of q y ys c.1 low))
  | inr s ↦
      let up : before (key_of x) (key_of y) ≡ true = before_from_not (key_of y) (key_of x) c.0 (same_sym (key_of y) (key_of x) ∙ s) in
      elim (cases_Bool (same (key_of x) q)) [
        | inl t ↦ rw t (omega (arith, none_below key_of q y ys c.1 (same_below (key_of x) (key_of y) q t up)))
        | inr t ↦ rw t (omega (arith, lowest_from key_of y ys p q c.1 (rw s at e) b))
      ]
]

-- the first key that neighbours share stands twice
pub twice : {T : Type 0} (key_of : T → ℕ × ℕ) (xs : List T) (p : ℕ × ℕ) → first_twin key_of xs ≡ Some p → 2 ≤ count_at key_of p xs
twice key_of [] p e = cc
twice key_of (x ∷ xs) p e = twice_from key_of x xs p e

-- and in rows that climb no lower key does
pub lowest : {T : Type 0} (key_of : T → ℕ × ℕ) (xs : List T) (p q : ℕ × ℕ) → Climbs key_of xs → first_twin key_of xs ≡ Some p → before q p ≡ true → count_at key_of q xs ≤ 1
lowest key_of [] p q c e b = cc
lowest key_of (x ∷ xs) p q c e b = lowest_from key_of x xs p q c e b

-- a key found is a key of a row
flat_from : {T : Type 0} (key_of : T → ℕ × ℕ) (x : T) (xs : List T) (p : ℕ × ℕ) → ((y : T) → (key_of y).1 ≡ 0) → first_twin_from key_of x xs ≡ Some p → p.1 ≡ 0
flat_from key_of x [] p flat e = cc
flat_from key_of x (y ∷ ys) p flat e = elim (cases_Bool (same (key_of x) (key_of y))) [
  | inl s ↦ let it : key_of y ≡ p = let f = rw s at e in cc in rw (← it) (flat y)
  | inr s ↦ flat_from key_of y ys p flat (rw s at e)
]

-- where all keys have 0 as their second part, a key that is found has it too
pub flat : {T : Type 0} (key_of : T → ℕ × ℕ) (xs : List T) (p : ℕ × ℕ) → ((y : T) → (key_of y).1 ≡ 0) → first_twin key_of xs ≡ Some p → p.1 ≡ 0
flat key_of [] p h e = cc
flat key_of (x ∷ xs) p h e = flat_from key_of x xs p h e
