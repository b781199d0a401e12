-- Rows with one row worked in: what stands at each key, the order, and how many rows there are.
use Rattle.std.proofs.Common.{◌≡◌, ℕ, ◌+◌, ◌<◌, true, cond, Option, Some, None, is_some, List, [], ◌∷◌, length, refl, ◌∙◌, ap, arith, inl, inr}
use Rattle.std.specs.List.{AllByRecursion}
use Rattle.std.proofs.lemmas.Bool.{cases_Bool}
use Rattle.sm_placement.specs.Sums.{bit}
use Rattle.sm_reservation.specs.Rows.{same, before, row_at, AllAfter, Rises, HasPositive}
use Rattle.sm_reservation.specs.Edits.{in_front, edited, edited_all, StaysAt}
use Rattle.sm_reservation.proofs.Places.{same_here, same_is, before_not_same, before_from_not, apart_after}
use Rattle.sm_reservation.proofs.RowLemmas.{none_after, AllAfter-trans}

-- ---- a row in front

front_at : {T : Type 0} (key_of : T → ℕ × ℕ) (k q : ℕ × ℕ) (o : Option T) (xs : List T) → ((z : T) → o ≡ Some z → key_of z ≡ k) → (same k q ≡ true → row_at key_of xs q ≡ None) → row_at key_of (in_front o xs) q ≡ cond (same k q) o (row_at key_of xs q)
front_at key_of k q None xs stays none = elim (cases_Bool (same k q)) [
  | inl s ↦ rw s (none s)
  | inr s ↦ rw s refl
]
front_at key_of k q (Some z) xs stays none = rw (stays z refl) refl

front_after : {T : Type 0} (key_of : T → ℕ × ℕ) (j k : ℕ × ℕ) (o : Option T) (xs : List T) → ((z : T) → o ≡ Some z → key_of z ≡ k) → before j k ≡ true → AllAfter key_of j xs → AllAfter key_of j (in_front o xs)
front_after key_of j k None xs stays b a = a
front_after key_of j k (Some z) xs stays b a = (rw (stays z refl) b, a)

front_rises : {T : Type 0} (key_of : T → ℕ × ℕ) (k : ℕ × ℕ) (o : Option T) (xs : List T) → ((z : T) → o ≡ Some z → key_of z ≡ k) → AllAfter key_of k xs → Rises key_of xs → Rises key_of (in_front o xs)
front_rises key_of k None xs stays a r = r
front_rises key_of k (Some z) xs stays a r = (rw (stays z refl) a, r)

pub front_length : {T : Type 0} (o : Option T) (xs : List T) → length (in_front o xs) ≡ bit (is_some o) + length xs
front_length None xs = omega arith
front_length (Some z) xs = omega arith

-- ---- what stands at each key

-- what the edit leaves stands at the key of the row worked in, and at each other key what stood there
pub row_at-edited : {T : Type 0} (key_of : T → ℕ × ℕ) (edit : Option T → T → Option T) (y : T) (q : ℕ × ℕ) (xs : List T) → StaysAt key_of edit → Rises key_of xs →
    row_at key_of (edited key_of edit xs y) q ≡ cond (same (key_of y) q) (edit (row_at key_of xs (key_of y)) y) (row_at key_of xs q)
row_at-edited key_of edit y q [] stays r = front_at key_of (key_of y) q (edit None y) [] (stays None y) (λ s. refl)
row_at-edited key_of edit y q (x ∷ xs) stays r = elim (cases_Bool (before (key_of x) (key_of y))) [
  | inl b ↦
      rw (b, before_not_same (key_of x) (key_of y) b) (elim (cases_Bool (same (key_of x) q)) [
        | inl e ↦ rw (e, apart_after (key_of x) (key_of y) q b e) refl
        | inr e ↦ rw e (row_at-edited key_of edit y q xs stays r.1)
      ])
  | inr b ↦ elim (cases_Bool (same (key_of x) (key_of y))) [
    | inl s ↦
        let it : key_of x ≡ key_of y = same_is (key_of x) (key_of y) s in
        let front = front_at key_of (key_of y) q (edit (Some x) y) xs (stays (Some x) y) (λ e. none_after key_of (key_of x) q xs r.0 (rw it e)) in
        rw (b, s) (front ∙ rw it (elim (cases_Bool (same (key_of y) q)) [
          | inl e ↦ rw e refl
          | inr e ↦ rw e refl
        ]))
    | inr s ↦
        let up : before (key_of y) (key_of x) ≡ true = before_from_not (key_of x) (key_of y) b s in
        let after : AllAfter key_of (key_of y) (x ∷ xs) = (up, AllAfter-trans key_of (key_of y) (key_of x) xs up r.0) in
        let here = none_after key_of (key_of y) (key_of y) xs after.1 (same_here (key_of y)) in
        let front = front_at key_of (key_of y) q (edit None y) (x ∷ xs) (stays None y) (λ e. none_after key_of (key_of y) q (x ∷ xs) after e) in
        rw (b, s, here) front
  ]
]

-- ---- the order

AllAfter-edited : {T : Type 0} (key_of : T → ℕ × ℕ) (edit : Option T → T → Option T) (j : ℕ × ℕ) (y : T) (xs : List T) → StaysAt key_of edit → before j (key_of y) ≡ true → AllAfter key_of j xs → AllAfter key_of j (edited key_of edit xs y)
AllAfter-edited key_of edit j y [] stays b a = front_after key_of j (key_of y) (edit None y) [] (stays None y) b tt
AllAfter-edited key_of edit j y (x ∷ xs) stays b a = elim (cases_Bool (before (key_of x) (key_of y))) [
  | inl e ↦ rw e (a.0, AllAfter-edited key_of edit j y xs stays b a.1)
  | inr e ↦ elim (cases_Bool (same (key_of x) (key_of y))) [
    | inl s ↦ rw (e, s) (front_after key_of j (key_of y) (edit (Some x) y) xs (stays (Some x) y) b a.1)
    | inr s ↦ rw (e, s) (front_after key_of j (key_of y) (edit None y) (x ∷ xs) (stays None y) b a)
  ]
]

-- rows that rise still do once a row is worked in
pub Rises-edited : {T : Type 0} (key_of : T → ℕ × ℕ) (edit : Option T → T → Option T) (y : T) (xs : List T) → StaysAt key_of edit → Rises key_of xs → Rises key_of (edited key_of edit xs y)
Rises-edited key_of edit y [] stays r = front_rises key_of (key_of y) (edit None y) [] (stays None y) tt tt
Rises-edited key_of edit y (x ∷ xs) stays r = elim (cases_Bool (before (key_of x) (key_of y))) [
  | inl b ↦ rw b (AllAfter-edited key_of edit (key_of x) y xs stays b r.0, Rises-edited key_of edit y xs stays r.1)
  | inr b ↦ elim (cases_Bool (same (key_of x) (key_of y))) [
    | inl s ↦ rw (b, s) (front_rises key_of (key_of y) (edit (Some x) y) xs (stays (Some x) y) (rw (same_is (key_of x) (key_of y) s) at r.0) r.1)
    | inr s ↦
        let up : before (key_of y) (key_of x) ≡ true = before_from_not (key_of x) (key_of y) b s in
        rw (b, s) (front_rises key_of (key_of y) (edit None y) (x ∷ xs) (stays None y) (up, AllAfter-trans key_of (key_of y) (key_of x) xs up r.0) r)
  ]
]

-- ---- how many rows there are

-- there is one row more where one is left and none stood, and one fewer where it is the other way round
pub length-edited : {T : Type 0} (key_of : T → ℕ × ℕ) (edit : Option T → T → Option T) (y : T) (xs : List T) → Rises key_of xs →
    length (edited key_of edit xs y) + bit (is_some (row_at key_of xs (key_of y))) ≡ length xs + bit (is_some (edit (row_at key_of xs (key_of y)) y))
length-edited key_of edit y [] r = omega (arith, front_length (edit None y) [])
length-edited key_of edit y (x ∷ xs) r = elim (cases_Bool (before (key_of x) (key_of y))) [
  | inl b ↦ rw (b, before_not_same (key_of x) (key_of y) b) (omega (arith, length-edited key_of edit y xs r.1))
  | inr b ↦ elim (cases_Bool (same (key_of x) (key_of y))) [
    | inl s ↦ rw (b, s) (omega (arith, front_length (edit (Some x) y) xs))
    | inr s ↦
        let up : before (key_of y) (key_of x) ≡ true = before_from_not (key_of x) (key_of y) b s in
        let here = none_after key_of (key_of y) (key_of y) xs (AllAfter-trans key_of (key_of y) (key_of x) xs up r.0) (same_here (key_of y)) in
        rw (b, s, here) (omega (arith, front_length (edit None y) (x ∷ xs)))
  ]
]

-- ---- what holds of all rows

front_all : {T : Type 0} (P : T → Type 0) (o : Option T) (xs : List T) → ((z : T) → o ≡ Some z → P z) → AllByRecursion P xs → AllByRecursion P (in_front o xs)
front_all P None xs h all = all
front_all P (Some z) xs h all = (h z refl, all)

-- what holds of all rows, and of what the edit leaves
pub all-edited : {T : Type 0} (key_of : T → ℕ × ℕ) (edit : Option T → T → Option T) (P : T → Type 0) (y : T) (xs : List T) → Rises key_of xs → ((z : T) → edit (row_at key_of xs (key_of y)) y ≡ Some z → P z) → AllByRecursion P xs → AllByRecursion P (edited key_of edit xs y)
all-edited key_of edit P y [] r h all = front_all P (edit None y) [] h tt
all-edited key_of edit P y (x ∷ xs) r h all = elim (cases_Bool (before (key_of x) (key_of y))) [
  | inl b ↦ rw b (all.0, all-edited key_of edit P y xs r.1 (rw (before_not_same (key_of x) (key_of y) b) at h) all.1)
  | inr b ↦ elim (cases_Bool (same (key_of x) (key_of y))) [
    | inl s ↦ rw (b, s) (front_all P (edit (Some x) y) xs (rw s at h) all.1)
    | inr s ↦
        let up : before (key_of y) (key_of x) ≡ true = before_from_not (key_of x) (key_of y) b s in
        let here = none_after key_of (key_of y) (key_of y) xs (AllAfter-trans key_of (key_of y) (key_of x) xs up r.0) (same_here (key_of y)) in
        rw (b, s) (front_all P (edit None y) (x ∷ xs) (rw (s, here) at h) all)
  ]
]

front_positive : {T : Type 0} (amount : T → ℕ) (o : Option T) (xs : List T) → ((z : T) → o ≡ Some z → 0 < amount z) → HasPositive amount xs → HasPositive amount (in_front o xs)
front_positive amount None xs h all = all
front_positive amount (Some z) xs h all = (h z refl, all)

-- amounts stay positive where the edit leaves none of 0
pub positive-edited : {T : Type 0} (key_of : T → ℕ × ℕ) (edit : Option T → T → Option T) (amount : T → ℕ) (y : T) (xs : List T) → ((held : Option T) (z : T) → edit held y ≡ Some z → 0 < amount z) → HasPositive amount xs → HasPositive amount (edited key_of edit xs y)
positive-edited key_of edit amount y [] h all = front_positive amount (edit None y) [] (h None) tt
positive-edited key_of edit amount y (x ∷ xs) h all = elim (cases_Bool (before (key_of x) (key_of y))) [
  | inl b ↦ rw b (all.0, positive-edited key_of edit amount y xs h all.1)
  | inr b ↦ elim (cases_Bool (same (key_of x) (key_of y))) [
    | inl s ↦ rw (b, s) (front_positive amount (edit (Some x) y) xs (h (Some x)) all.1)
    | inr s ↦ rw (b, s) (front_positive amount (edit None y) (x ∷ xs) (h None) all)
  ]
]

-- ---- all rows of a list

-- rows that rise still do once the rows of a list are worked in
pub Rises-edited_all : {T : Type 0} (key_of : T → ℕ × ℕ) (edit : Option T → T → Option T) (xs ys : List T) → StaysAt key_of edit → Rises key_of xs → Rises key_of (edited_all key_of edit xs ys)
Rises-edited_all key_of edit xs [] stays r = r
Rises-edited_all key_of edit xs (y ∷ ys) stays r = Rises-edited_all key_of edit (edited key_of edit xs y) ys stays (Rises-edited key_of edit y xs stays r)

-- and their amounts stay positive, where the edit leaves none of 0
pub positive-edited_all : {T : Type 0} (key_of : T → ℕ × ℕ) (edit : Option T → T → Option T) (amount : T → ℕ) (xs ys : List T) → ((held : Option T) (y z : T) → edit held y ≡ Some z → 0 < amount z) → HasPositive amount xs → HasPositive amount (edited_all key_of edit xs ys)
positive-edited_all key_of edit amount xs [] h all = all
positive-edited_all key_of edit amount xs (y ∷ ys) h all = positive-edited_all key_of edit amount (edited key_of edit xs y) ys h (positive-edited key_of edit amount y xs (λ held z. h held y z) all)

-- ---- two edits that leave the same

-- two edits that leave the same of the row at the key make the same rows
pub edited_same : {T : Type 0} (key_of : T → ℕ × ℕ) (f g : Option T → T → Option T) (y : T) (xs : List T) → Rises key_of xs → f (row_at key_of xs (key_of y)) y ≡ g (row_at key_of xs (key_of y)) y → edited key_of f xs y ≡ edited key_of g xs y
edited_same key_of f g y [] r e = ap (λ o. in_front o []) e
edited_same {T} key_of f g y (x ∷ xs) r e = elim (cases_Bool (before (key_of x) (key_of y))) [
  | inl b ↦ rw b (ap (λ (l : List T). x ∷ l) (edited_same key_of f g y xs r.1 (rw (before_not_same (key_of x) (key_of y) b) at e)))
  | inr b ↦ elim (cases_Bool (same (key_of x) (key_of y))) [
    | inl s ↦ rw (b, s) (ap (λ (o : Option T). in_front o xs) (rw s at e))
    | inr s ↦
        let up : before (key_of y) (key_of x) ≡ true = before_from_not (key_of x) (key_of y) b s in
        let here = none_after key_of (key_of y) (key_of y) xs (AllAfter-trans key_of (key_of y) (key_of x) xs up r.0) (same_here (key_of y)) in
        rw (b, s) (ap (λ (o : Option T). in_front o (x ∷ xs)) (rw (s, here) at e))
  ]
]

-- what holds of all rows holds of what stands at a key
at_place : {T : Type 0} (key_of : T → ℕ × ℕ) (P : T → Type 0) (q : ℕ × ℕ) (x : T) (xs : List T) → AllByRecursion P xs → row_at key_of xs q ≡ Some x → P x
at_place key_of P q x [] all e = cc
at_place key_of P q x (y ∷ ys) all e = elim (cases_Bool (same (key_of y) q)) [
  | inl s ↦ let f = rw s at e in let it : y ≡ x = cc in rw (← it) all.0
  | inr s ↦ at_place key_of P q x ys all.1 (rw s at e)
]

-- what holds of all rows holds of them once a list is worked in, where the edit keeps it
pub all-edited_all : {T : Type 0} (key_of : T → ℕ × ℕ) (edit : Option T → T → Option T) (P : T → Type 0) (xs ys : List T) → StaysAt key_of edit → Rises key_of xs → ((held : Option T) (y z : T) → ((x : T) → held ≡ Some x → P x) → edit held y ≡ Some z → P z) → AllByRecursion P xs → AllByRecursion P (edited_all key_of edit xs ys)
all-edited_all key_of edit P xs [] stays r h all = all
all-edited_all key_of edit P xs (y ∷ ys) stays r h all =
    all-edited_all key_of edit P (edited key_of edit xs y) ys stays (Rises-edited key_of edit y xs stays r) h (all-edited key_of edit P y xs r (λ z e. h (row_at key_of xs (key_of y)) y z (λ x f. at_place key_of P (key_of y) x xs all f) e) all)
