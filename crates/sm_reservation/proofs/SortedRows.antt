-- Rows put in order: two lists that rise and have the same rows are one list.
use Rattle.std.proofs.Common.{◌≡◌, ℕ, zero, suc, ◌<◌, ◌≤◌, true, Option, Some, None, List, [], ◌∷◌, length, get_or, refl, sym, ◌∙◌, ap, subst, arith, inl, inr, ◌⊎◌, nat_lt}
use Rattle.std.specs.List.{Contains, count_by, filter}
use Rattle.std.specs.List.Sorted.{IsPermutation}
use Rattle.std.proofs.lemmas.Bool.{cases_Bool}
use Rattle.std.proofs.lemmas.Bool.Decides.{nat_tests}
use Rattle.std.proofs.lemmas.List.Sorted.{IsPermutation-refl, IsPermutation-trans, IsPermutation-cons, IsPermutation-insert, IsPermutation-sym}
use Rattle.sm_reservation.specs.Rows.{same, before, row_at, AllAfter, Rises, count_before, HasPositive}
use Rattle.sm_reservation.specs.Key.{SameElements}
use Rattle.sm_reservation.specs.InOrder.{insert_row, sorted}
use Rattle.sm_reservation.proofs.Places.{same_here, before_not_same}
use Rattle.sm_reservation.proofs.RowLemmas.{Rises-insert}
use Rattle.sm_reservation.proofs.OrderLemmas.{count_at, count_at_is, count_before_sort, once_at}
use Rattle.sm_reservation.proofs.ElementLemmas.{same_elements, later}

-- ---- rows of a list that rises

here_or_later : {T : Type 0} (x y : T) (ys : List T) (k : ℕ) → k < length (y ∷ ys) → get_or (y ∷ ys) k x ≡ x → (y ≡ x) ⊎ Contains ys x
here_or_later x y ys zero lt e = inl e
here_or_later x y ys (suc k) lt e = inr (k, omega arith, e)

which : {T : Type 0} (x y : T) (ys : List T) → Contains (y ∷ ys) x → (y ≡ x) ⊎ Contains ys x
which x y ys h = here_or_later x y ys h.0 h.1 h.2

after_each : {T : Type 0} (key_of : T → ℕ × ℕ) (k : ℕ × ℕ) (xs : List T) (x : T) → AllAfter key_of k xs → Contains xs x → before k (key_of x) ≡ true
after_each key_of k [] x a h = absurd (omega (arith, h.1))
after_each key_of k (y ∷ ys) x a h = elim (which x y ys h) [
  | inl e ↦ rw (← e) a.0
  | inr there ↦ after_each key_of k ys x a.1 there
]

not_before_itself : (p : ℕ × ℕ) → before p p ≡ true → ⊥
not_before_itself p e = grind (arith, nat_tests)

not_both_ways : (p q : ℕ × ℕ) → before p q ≡ true → before q p ≡ true → ⊥
not_both_ways p q a b = grind (arith, nat_tests)

same_head : {T : Type 0} (key_of : T → ℕ × ℕ) (x y : T) (xs ys : List T) → Rises key_of (x ∷ xs) → Rises key_of (y ∷ ys) → Contains (y ∷ ys) x → Contains (x ∷ xs) y → x ≡ y
same_head key_of x y xs ys r q a b = elim (which x y ys a) [
  | inl e ↦ sym e
  | inr c ↦ elim (which y x xs b) [
    | inl e ↦ e
    | inr d ↦ absurd (not_both_ways (key_of x) (key_of y) (after_each key_of (key_of x) xs y r.0 d) (after_each key_of (key_of y) ys x q.0 c))
  ]
]

in_tail : {T : Type 0} (key_of : T → ℕ × ℕ) (x y z : T) (xs ys : List T) → Rises key_of (x ∷ xs) → x ≡ y → Contains (y ∷ ys) z → Contains xs z → Contains ys z
in_tail {T} key_of x y z xs ys r e a h = elim (which z y ys a) [
  | inl f ↦ absurd (not_before_itself (key_of x) (subst (λ (w : T). before (key_of x) (key_of w) ≡ true) (sym (e ∙ f)) (after_each key_of (key_of x) xs z r.0 h)))
  | inr there ↦ there
]

-- two lists that rise and have the same rows are one
pub same_list : {T : Type 0} (key_of : T → ℕ × ℕ) (xs ys : List T) → Rises key_of xs → Rises key_of ys → SameElements xs ys → xs ≡ ys
same_list key_of [] [] r q s = refl
same_list key_of [] (y ∷ ys) r q s = let h = (s y).1 (zero, omega arith, refl) in absurd (omega (arith, h.1))
same_list key_of (x ∷ xs) [] r q s = let h = (s x).0 (zero, omega arith, refl) in absurd (omega (arith, h.1))
same_list key_of (x ∷ xs) (y ∷ ys) r q s =
    let e : x ≡ y = same_head key_of x y xs ys r q ((s x).0 (zero, omega arith, refl)) ((s y).1 (zero, omega arith, refl)) in
    let rest : SameElements xs ys = λ z. (
      λ h. in_tail key_of x y z xs ys r e ((s z).0 (later z x xs h)) h,
      λ h. in_tail key_of y x z ys xs q (sym e) ((s z).1 (later z y ys h)) h,
    ) in
    rw (e, same_list key_of xs ys r.1 q.1 rest) refl

-- ---- the rows in order

-- putting rows in order changes nothing but where they stand
pub sorted_permutes : {T : Type 0} (key_of : T → ℕ × ℕ) (xs : List T) → IsPermutation xs (sorted key_of xs)
sorted_permutes key_of [] = IsPermutation-refl []
sorted_permutes key_of (x ∷ xs) =
    let rest = sorted key_of xs in
    IsPermutation-trans (x ∷ xs) (x ∷ rest) (insert_row key_of x rest) (IsPermutation-cons x xs rest (sorted_permutes key_of xs)) (IsPermutation-insert rest (count_before key_of (key_of x) rest) x)

none_there : {T : Type 0} (key_of : T → ℕ × ℕ) (q : ℕ × ℕ) (xs : List T) → count_at key_of q xs ≡ 0 → row_at key_of xs q ≡ None
none_there key_of q [] e = refl
none_there key_of q (x ∷ xs) e = elim (cases_Bool (same (key_of x) q)) [
  | inl s ↦ let f = rw s at e in absurd (omega arith)
  | inr s ↦ rw s (none_there key_of q xs (rw s at e))
]

-- no key stands twice
abbrev pub IsOnceEach : {T : Type 0} → (T → ℕ × ℕ) → List T → Type 0
IsOnceEach {T} key_of xs = (x : T) → count_by (λ y. same (key_of y) (key_of x)) xs ≤ 1

-- rows in order rise, where no key stands twice
pub sorted_rises : {T : Type 0} (key_of : T → ℕ × ℕ) (xs : List T) → IsOnceEach key_of xs → Rises key_of (sorted key_of xs)
sorted_rises key_of [] once = tt
sorted_rises {T} key_of (x ∷ xs) once = Rises-insert key_of x (sorted key_of xs) (sorted_rises key_of xs fewer) (none_there key_of (key_of x) (sorted key_of xs) none)
  where
    counted : (y : T) → count_at key_of (key_of y) (x ∷ xs) ≤ 1
    counted y = rw (count_at_is key_of (key_of y) (x ∷ xs)) (once y)

    fewer : (y : T) → count_by (λ z. same (key_of z) (key_of y)) xs ≤ 1
    fewer y = elim (cases_Bool (same (key_of x) (key_of y))) [
      | inl s ↦ let h = rw s at (counted y) in rw (← count_at_is key_of (key_of y) xs) (omega arith)
      | inr s ↦ rw (← count_at_is key_of (key_of y) xs) (rw s at (counted y))
    ]

    none : count_at key_of (key_of x) (sorted key_of xs) ≡ 0
    none =
        let h = rw (same_here (key_of x)) at (counted x) in
        let a = count_before_sort key_of (key_of x) xs (sorted key_of xs) (sorted_permutes key_of xs) in
        let b = count_at_is key_of (key_of x) xs in
        omega arith

-- rows put in order in whatever way
pub sorted_is : {T : Type 0} (key_of : T → ℕ × ℕ) (xs ys : List T) → IsPermutation xs ys → Rises key_of ys → sorted key_of xs ≡ ys
sorted_is key_of xs ys p r =
    let once : IsOnceEach key_of xs = λ x. rw (count_before_sort key_of (key_of x) xs ys p) (once_at key_of (key_of x) ys r) in
    let perm = IsPermutation-trans (sorted key_of xs) xs ys (IsPermutation-sym xs (sorted key_of xs) (sorted_permutes key_of xs)) p in
    same_list key_of (sorted key_of xs) ys (sorted_rises key_of xs once) r (same_elements (sorted key_of xs) ys perm)

-- rows that rise are in order already
pub sorted_of_rising : {T : Type 0} (key_of : T → ℕ × ℕ) (xs : List T) → Rises key_of xs → sorted key_of xs ≡ xs
sorted_of_rising key_of xs r = sorted_is key_of xs xs (IsPermutation-refl xs) r

-- where no amount is 0, no row is left out for it
pub kept_positive : {T : Type 0} (amount : T → ℕ) (xs : List T) → HasPositive amount xs → filter (λ x. nat_lt 0 (amount x)) xs ≡ xs
kept_positive amount [] p = refl
kept_positive amount (x ∷ xs) p =
    let yes : nat_lt 0 (amount x) ≡ true = (let q = p.0 in grind (arith, nat_tests)) in
    rw (yes, kept_positive amount xs p.1) refl

-- ---- lists that rise and say the same at each key

row_is_in : {T : Type 0} (key_of : T → ℕ × ℕ) (k : ℕ × ℕ) (xs : List T) (v : T) → row_at key_of xs k ≡ Some v → Contains xs v × (same (key_of v) k ≡ true)
row_is_in key_of k [] v e = cc
row_is_in key_of k (x ∷ xs) v e = elim (cases_Bool (same (key_of x) k)) [
  | inl s ↦ let f = rw s at e in let it : x ≡ v = cc in ((zero, omega arith, it), rw (← it) s)
  | inr s ↦ let h = row_is_in key_of k xs v (rw s at e) in (later v x xs h.0, h.1)
]

row_of_each : {T : Type 0} (key_of : T → ℕ × ℕ) (xs : List T) (x : T) → Rises key_of xs → Contains xs x → row_at key_of xs (key_of x) ≡ Some x
row_of_each key_of [] x r h = absurd (omega (arith, h.1))
row_of_each key_of (y ∷ ys) x r h = elim (which x y ys h) [
  | inl e ↦ rw (e, same_here (key_of x)) refl
  | inr there ↦ rw (before_not_same (key_of y) (key_of x) (after_each key_of (key_of y) ys x r.0 there)) (row_of_each key_of ys x r.1 there)
]

-- each row has a positive amount, where all have one
pub positive_each : {T : Type 0} (amount : T → ℕ) (xs : List T) (x : T) → HasPositive amount xs → Contains xs x → 0 < amount x
positive_each amount [] x p h = absurd (omega (arith, h.1))
positive_each amount (y ∷ ys) x p h = elim (which x y ys h) [
  | inl e ↦ rw (← e) p.0
  | inr there ↦ positive_each amount ys x p.1 there
]

-- what is read of a row tells the rows of a key apart, and no row is read as none
pub record IsRead {T V : Type 0} (key_of : T → ℕ × ℕ) (read : Option T → V) (xs : List T) : Type 0 where
  pub row : (x y : T) → same (key_of y) (key_of x) ≡ true → read (Some y) ≡ read (Some x) → y ≡ x
  pub some : (x : T) → Contains xs x → read None ≡ read (Some x) → ⊥

has_each : {T V : Type 0} (key_of : T → ℕ × ℕ) (read : Option T → V) (xs ys : List T) → Rises key_of xs → IsRead key_of read xs → ((q : T) → read (row_at key_of xs (key_of q)) ≡ read (row_at key_of ys (key_of q))) → (x : T) → Contains xs x → Contains ys x
has_each {T} key_of read xs ys r is e x h = by_row (row_at key_of ys (key_of x)) refl
  where
    said : read (Some x) ≡ read (row_at key_of ys (key_of x))
    said = ap read (sym (row_of_each key_of xs x r h)) ∙ e x

    by_row : (o : Option T) → row_at key_of ys (key_of x) ≡ o → Contains ys x
    by_row None f = absurd (is.some x h (sym (said ∙ ap read f)))
    by_row (Some y) f =
        let there = row_is_in key_of (key_of x) ys y f in
        let it : y ≡ x = is.row x y there.1 (sym (said ∙ ap read f)) in
        subst (λ (z : T). Contains ys z) it there.0

-- rows that rise are the same where the same is read of them at each key
pub same_reading : {T V : Type 0} (key_of : T → ℕ × ℕ) (read : Option T → V) (xs ys : List T) → Rises key_of xs → Rises key_of ys → IsRead key_of read xs → IsRead key_of read ys → ((q : T) → read (row_at key_of xs (key_of q)) ≡ read (row_at key_of ys (key_of q))) → xs ≡ ys
same_reading key_of read xs ys r q a b e = same_list key_of xs ys r q (λ x. (has_each key_of read xs ys r a e x, has_each key_of read ys xs q b (λ z. sym (e z)) x))
