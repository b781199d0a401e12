-- One row worked in by a search: what is left at the number where its key stands, or would stand.
use Rattle.std.proofs.Common.{◌≡◌, ℕ, suc, true, ◌&&◌, Option, Some, None, is_some, is_none, List, [], ◌∷◌, refl, sym, ◌∙◌, ap, inl, inr}
use Rattle.std.proofs.lemmas.Bool.{cases_Bool}
use Rattle.sm_reservation.specs.Rows.{same, before, Rises, count_before}
use Rattle.sm_reservation.specs.Edits.{in_front, edited, left_at, head_at, new_rows}
use Rattle.sm_reservation.proofs.MergeLemmas.{from, new_turn}

left_past : {T : Type 0} (held left : Option T) (n : ℕ) (x : T) (xs : List T) → left_at held left (suc n) (x ∷ xs) ≡ x ∷ left_at held left n xs
left_past None None n x xs = refl
left_past None (Some z) n x xs = refl
left_past (Some w) None n x xs = refl
left_past (Some w) (Some z) n x xs = refl

left_first : {T : Type 0} (left : Option T) (xs : List T) → in_front left xs ≡ left_at None left 0 xs
left_first None xs = refl
left_first (Some z) [] = refl
left_first (Some z) (x ∷ xs) = refl

left_over_first : {T : Type 0} (left : Option T) (x : T) (xs : List T) → in_front left xs ≡ left_at (Some x) left 0 (x ∷ xs)
left_over_first None x xs = refl
left_over_first (Some z) x xs = refl

pub edited_left : {T : Type 0} (key_of : T → ℕ × ℕ) (edit : Option T → T → Option T) (y : T) (xs : List T) →
    edited key_of edit xs y ≡ left_at (head_at key_of (from key_of xs (key_of y)) (key_of y)) (edit (head_at key_of (from key_of xs (key_of y)) (key_of y)) y) (count_before key_of (key_of y) xs) xs
edited_left key_of edit y [] = left_first (edit None y) []
edited_left {T} key_of edit y (x ∷ xs) = elim (cases_Bool (before (key_of x) (key_of y))) [
  | inl b ↦
      let held = head_at key_of (from key_of xs (key_of y)) (key_of y) in
      rw b (ap (λ (l : List T). x ∷ l) (edited_left key_of edit y xs) ∙ (let e = left_past held (edit held y) (count_before key_of (key_of y) xs) x xs in rw e refl))
  | inr b ↦ elim (cases_Bool (same (key_of x) (key_of y))) [
    | inl s ↦ rw (b, s) (left_over_first (edit (Some x) y) x xs)
    | inr s ↦ rw (b, s) (left_first (edit None y) (x ∷ xs))
  ]
]

-- what is left there is the rows with the row worked in
pub left_is : {T : Type 0} (key_of : T → ℕ × ℕ) (edit : Option T → T → Option T) (y : T) (xs : List T) (held left : Option T) (n : ℕ) → n ≡ count_before key_of (key_of y) xs → held ≡ head_at key_of (from key_of xs (key_of y)) (key_of y) → left ≡ edit held y →
    left_at held left n xs ≡ edited key_of edit xs y
left_is key_of edit y xs held left n at here is = rw (is, here, at) (sym (edited_left key_of edit y xs))

-- where none stood and one is left, one comes in
pub one_comes : {T : Type 0} (key_of : T → ℕ × ℕ) (edit : Option T → T → Option T) (y : T) (xs : List T) (held left : Option T) → Rises key_of xs → held ≡ head_at key_of (from key_of xs (key_of y)) (key_of y) → left ≡ edit held y → is_none held && is_some left ≡ true →
    new_rows key_of edit xs (y ∷ []) ≡ 1
one_comes key_of edit y xs (Some x) left o here is come = cc
one_comes key_of edit y xs None left o here is come =
    let turn = rw (← here) at (new_turn key_of edit y xs [] o (tt, tt)) in
    let n : is_some (edit None y) ≡ true = rw is at come in
    rw (turn, n) refl
