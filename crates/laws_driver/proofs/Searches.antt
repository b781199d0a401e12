-- Results of searches, and lists with one element replaced.
use Rattle.std.proofs.Common.{◌≡◌, ◌<◌, ◌⊎◌, ◌∙◌, ◌+◌, ◌∷◌, ◌++◌, [], ℕ, zero, suc, Bool, true, false, Option, Some, None, List, length, get_or, set, refl, sym, ap, inl, inr, arith}
use Rattle.std.specs.Prelude.{slice_get, if◌then◌else◌}
use Rattle.std.proofs.lemmas.Bool.{cases_eq, cases_lt}
use Rattle.std.proofs.lemmas.List.{get_or_past, get_or-set_same, get_or-set_other, length-set}
use Rattle.sm_placement.specs.Sums.{first_from, put}
use Rattle.sm_placement.proofs.Sums.{put-here, put-apart}

-- what a search finds is at one of the numbers that it goes through
pub found_at : {A : Type 0} (f : ℕ → Option A) (a n : ℕ) (x : A) → first_from a n f ≡ Some x → (k : ℕ) × (k < a + n) × (f k ≡ Some x)
found_at f a zero x e = absurd (cc)
found_at {A = A} f a (suc n) x e = go (found_at f (a + 1) n x) (f a) refl
  where
    go : (first_from (a + 1) n f ≡ Some x → (k : ℕ) × (k < a + 1 + n) × (f k ≡ Some x)) → (o : Option A) → f a ≡ o → (k : ℕ) × (k < a + suc n) × (f k ≡ Some x)
    go rest (Some y) here = (a, omega arith, here ∙ (let first : first_from a (suc n) f ≡ Some y = rw here refl in sym first ∙ e))
    go rest None here =
        let later : first_from a (suc n) f ≡ first_from (a + 1) n f = rw here refl in
        let at = rest (sym later ∙ e) in
        let l = at.1 in
        (at.0, omega arith, at.2)

-- what a test gives
pub passed : {A : Type 0} (b : Bool) (x y : A) → (if b then Some x else None) ≡ Some y → (b ≡ true) × (x ≡ y)
passed true x y e = (refl, (cc))
passed false x y e = absurd (cc)

-- a function of the elements, where one of them is another
pub put_set : {A : Type 0} (d : A) (xs : List A) (v : ℕ) (x : A) → v < length xs → (u : ℕ) → put (λ k. get_or xs k d) v x u ≡ get_or (set xs v x) u d
put_set d xs v x l u = elim (cases_eq u v) [
  | inl here ↦ put-here (λ k. get_or xs k d) v x u here ∙ sym (ap (λ k. get_or (set xs v x) k d) here ∙ get_or-set_same xs v x d l)
  | inr apart ↦ put-apart (λ k. get_or xs k d) v x u apart ∙ sym (get_or-set_other xs v u x d apart)
]

-- an element of a list in which one is another is that one, or as it was
pub set_cases : {A : Type 0} (d : A) (xs : List A) (v : ℕ) (x : A) (u : ℕ) → (get_or (set xs v x) u d ≡ x) ⊎ (get_or (set xs v x) u d ≡ get_or xs u d)
set_cases d xs v x u = elim (cases_eq u v) [
  | inl here ↦ elim (cases_lt v (length xs)) [
    | inl l ↦ inl (ap (λ k. get_or (set xs v x) k d) here ∙ get_or-set_same xs v x d l)
    | inr past ↦ inr (get_or_past (set xs v x) u d (let n = length-set xs v x in omega arith) ∙ sym (get_or_past xs u d (omega arith)))
  ]
  | inr apart ↦ inr (get_or-set_other xs v u x d apart)
]

-- an element that stands in the list is within it
pub some_within : {A : Type 0} (xs : List (Option A)) (v : ℕ) (x : A) → get_or xs v None ≡ Some x → v < length xs
some_within xs v x e = elim (cases_lt v (length xs)) [
  | inl l ↦ l
  | inr past ↦ absurd (let none = get_or_past xs v None past in cc)
]

-- what stands in a list stands in a longer one
pub get_before : {A : Type 0} (xs ys : List A) (k : ℕ) (x : A) → slice_get xs k ≡ Some x → slice_get (xs ++ ys) k ≡ Some x
get_before [] ys k x e = absurd (cc)
get_before (y ∷ xs) ys zero x e = e
get_before (y ∷ xs) ys (suc k) x e = get_before xs ys k x e

-- and the last stands at its place
pub get_last : {A : Type 0} (xs : List A) (x : A) → slice_get (xs ++ x ∷ []) (length xs) ≡ Some x
get_last [] x = refl
get_last (y ∷ xs) x = get_last xs x
