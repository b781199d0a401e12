-- Ordered rows: look-ups after an edit.
use Rattle.std.proofs.Common.{◌≡◌, ℕ, ◌<◌, ◌≤◌, true, false, Option, Some, None, IsSome, List, [], ◌∷◌, length, get_or, refl, sym, ◌∙◌, ap, arith, inl, inr}
use Rattle.std.specs.List.{insert}
use Rattle.std.specs.Option.{option_to_list}
use Rattle.std.proofs.lemmas.Bool.{cases_Bool, both_ways}
use Rattle.sm_reservation.specs.Rows.{same, before, row_at, AllAfter, Rises, count_before}
use Rattle.sm_reservation.proofs.Places.{same_here, same_trans, before_not_same, before_trans, before_from_not}

some_not_none : {A : Type 0} {x : A} → Some x ≡ None → ⊥
some_not_none e = cc

-- no more rows come before a key than there are
pub count_before-le-length : {T : Type 0} (key_of : T → ℕ × ℕ) (k : ℕ × ℕ) (xs : List T) → count_before key_of k xs ≤ length xs
count_before-le-length key_of k [] = omega arith
count_before-le-length key_of k (x ∷ xs) = elim (cases_Bool (before (key_of x) k)) [
  | inl e ↦ rw e (omega (arith, count_before-le-length key_of k xs))
  | inr e ↦ rw e (omega arith)
]

-- nothing stands at a key before all rows
pub none_after : {T : Type 0} (key_of : T → ℕ × ℕ) (k q : ℕ × ℕ) (xs : List T) → AllAfter key_of k xs → same k q ≡ true → row_at key_of xs q ≡ None
none_after key_of k q [] a e = refl
none_after key_of k q (x ∷ xs) a e =
    let apart : same (key_of x) q ≡ false = elim (cases_Bool (same (key_of x) q)) [
      | inl f ↦ absurd (both_ways (same k (key_of x)) (before_not_same k (key_of x) a.0) (same_trans k (key_of x) q e f))
      | inr f ↦ f
    ] in
    rw apart (none_after key_of k q xs a.1 e)

-- where there is one row at most, the rows rise
pub one_rises : {T : Type 0} (key_of : T → ℕ × ℕ) (o : Option T) → Rises key_of (option_to_list o)
one_rises key_of None = tt
one_rises key_of (Some x) = (tt, tt)

-- rows that come after a key come after each key before it
pub AllAfter-trans : {T : Type 0} (key_of : T → ℕ × ℕ) (j k : ℕ × ℕ) (xs : List T) → before j k ≡ true → AllAfter key_of k xs → AllAfter key_of j xs
AllAfter-trans key_of j k [] b a = tt
AllAfter-trans key_of j k (x ∷ xs) b a = (before_trans j k (key_of x) b a.0, AllAfter-trans key_of j k xs b a.1)

-- the row found where the search ends
pub row_here : {T : Type 0} (key_of : T → ℕ × ℕ) (k : ℕ × ℕ) (xs : List T) (d : T) → count_before key_of k xs < length xs → same (key_of (get_or xs (count_before key_of k xs) d)) k ≡ true → row_at key_of xs k ≡ Some (get_or xs (count_before key_of k xs) d)
row_here key_of k [] d lt e = absurd (omega arith)
row_here key_of k (x ∷ xs) d lt e = elim (cases_Bool (before (key_of x) k)) [
  | inl b ↦ rw (b, before_not_same (key_of x) k b) (row_here key_of k xs d (omega (arith, rw b at lt)) (rw b at e))
  | inr b ↦ rw b (rw (rw b at e) refl)
]

-- or no row
pub no_row_here : {T : Type 0} (key_of : T → ℕ × ℕ) (k : ℕ × ℕ) (xs : List T) (d : T) → Rises key_of xs → (count_before key_of k xs < length xs → same (key_of (get_or xs (count_before key_of k xs) d)) k ≡ false) → row_at key_of xs k ≡ None
no_row_here key_of k [] d r e = refl
no_row_here key_of k (x ∷ xs) d r e = elim (cases_Bool (before (key_of x) k)) [
  | inl b ↦ let f = rw b at e in rw (before_not_same (key_of x) k b) (no_row_here key_of k xs d r.1 (λ lt. f (omega arith)))
  | inr b ↦ let f = rw b at e in
      let apart : same (key_of x) k ≡ false = f (omega arith) in
      rw apart (none_after key_of k k xs (AllAfter-trans key_of k (key_of x) xs (before_from_not (key_of x) k b apart) r.0) (same_here k))
]

AllAfter-insert : {T : Type 0} (key_of : T → ℕ × ℕ) (j k : ℕ × ℕ) (y : T) (xs : List T) → before j (key_of y) ≡ true → AllAfter key_of j xs → AllAfter key_of j (insert xs (count_before key_of k xs) y)
AllAfter-insert key_of j k y [] b a = (b, tt)
AllAfter-insert key_of j k y (x ∷ xs) b a = elim (cases_Bool (before (key_of x) k)) [
  | inl e ↦ rw e (a.0, AllAfter-insert key_of j k y xs b a.1)
  | inr e ↦ rw e (b, a)
]

-- rows that rise still do with a row put in where its key belongs, if none stood there
pub Rises-insert : {T : Type 0} (key_of : T → ℕ × ℕ) (y : T) (xs : List T) → Rises key_of xs → row_at key_of xs (key_of y) ≡ None → Rises key_of (insert xs (count_before key_of (key_of y) xs) y)
Rises-insert key_of y [] r none = (tt, tt)
Rises-insert key_of y (x ∷ xs) r none = elim (cases_Bool (before (key_of x) (key_of y))) [
  | inl b ↦
      let rest : row_at key_of xs (key_of y) ≡ None = rw (before_not_same (key_of x) (key_of y) b) at none in
      rw b (AllAfter-insert key_of (key_of x) (key_of y) y xs b r.0, Rises-insert key_of y xs r.1 rest)
  | inr b ↦ elim (cases_Bool (same (key_of x) (key_of y))) [
    | inl e ↦ absurd (some_not_none (rw e at none))
    | inr e ↦
        let up : before (key_of y) (key_of x) ≡ true = before_from_not (key_of x) (key_of y) b e in
        rw b ((up, AllAfter-trans key_of (key_of y) (key_of x) xs up r.0), r)
  ]
]

-- the same, as the code meets them
pub found : {T : Type 0} (key_of : T → ℕ × ℕ) (xs : List T) (k : ℕ × ℕ) (i : ℕ) (v : T) → i ≡ count_before key_of k xs → i < length xs → v ≡ get_or xs i v → same (key_of v) k ≡ true → row_at key_of xs k ≡ Some v
found key_of xs k i v e lt is s =
    let at : v ≡ get_or xs (count_before key_of k xs) v = rw (← e) is in
    row_here key_of k xs v (rw (← e) lt) (rw (← at) s) ∙ ap Some (sym at)

-- no row stands at a key where the search ends at a row of another key
pub not_found : {T : Type 0} (key_of : T → ℕ × ℕ) (xs : List T) (k : ℕ × ℕ) (i : ℕ) (v : T) → Rises key_of xs → i ≡ count_before key_of k xs → v ≡ get_or xs i v → same (key_of v) k ≡ false → row_at key_of xs k ≡ None
not_found key_of xs k i v r e is s =
    let at : v ≡ get_or xs (count_before key_of k xs) v = rw (← e) is in
    no_row_here key_of k xs v r (λ _. rw (← at) s)

-- nor where it ends behind the last row
pub not_found_past : {T : Type 0} (key_of : T → ℕ × ℕ) (xs : List T) (k : ℕ × ℕ) (i : ℕ) → Rises key_of xs → i ≡ count_before key_of k xs → length xs ≤ i → row_at key_of xs k ≡ None
not_found_past key_of [] k i r e le = refl
not_found_past key_of (x ∷ xs) k i r e le = no_row_here key_of k (x ∷ xs) x r (λ lt. absurd (omega (arith, e)))

-- what is there has a value
pub some_of : {T : Type 0} (o : Option T) → IsSome o → (v : T) × (o ≡ Some v)
some_of (Some v) h = (v, refl)
some_of None h = cc
