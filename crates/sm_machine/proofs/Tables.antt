-- A list in a list written at one place.
use Rattle.std.proofs.Common.{◌≡◌, ℕ, zero, suc, [], ◌∷◌, ◌++◌, ◌<◌, List, length, set, get_or, map, refl, sym, ap, ◌∙◌, inl, inr}
use Rattle.std.proofs.Math.Path.{fun_ext}
use Rattle.std.proofs.lemmas.Bool.{cases_eq}
use Rattle.std.proofs.lemmas.List.{get_or-set_same, get_or-set_other, map-set, set-get_or}
use Rattle.sm_placement.specs.Sums.{put, put2}
use Rattle.sm_placement.proofs.Sums.{put-here, put-apart, put2-here, put2-row, put2-apart}

-- the value that the item i of the row of the item p gives
abbrev pub inner : {N A B : Type 0} → (N → List A) → (A → B) → N → A → List N → ℕ → ℕ → B
inner row f none d ns p i = f (get_or (row (get_or ns p none)) i d)

-- one item written
pub inner-set : {N A B : Type 0} (row : N → List A) (f : A → B) (none : N) (d : A) (ns : List N) (p i : ℕ) (n : N) (y : A) →
    p < length ns → i < length (row (get_or ns p none)) → row n ≡ set (row (get_or ns p none)) i y →
    inner row f none d (set ns p n) ≡ put2 (inner row f none d ns) p i (f y)
inner-set {N} {A} {B} row f none d ns p i n y l m h = fun_ext (λ r. fun_ext (λ q. at r q))
  where
    here : row (get_or (set ns p n) p none) ≡ set (row (get_or ns p none)) i y
    here = ap row (get_or-set_same ns p n none l) ∙ h

    at : (r q : ℕ) → inner row f none d (set ns p n) r q ≡ put2 (inner row f none d ns) p i (f y) r q
    at r q = elim (cases_eq r p) [
      | inl e ↦ elim (cases_eq q i) [
        | inl g ↦ rw (e, g) (ap (λ xs. f (get_or xs i d)) here ∙ ap f (get_or-set_same (row (get_or ns p none)) i y d m) ∙ sym (put2-here (inner row f none d ns) p i (f y)))
        | inr g ↦ rw e (ap (λ xs. f (get_or xs q d)) here ∙ ap f (get_or-set_other (row (get_or ns p none)) i q y d g) ∙ sym (put2-row (inner row f none d ns) p i (f y) q g))
      ]
      | inr e ↦ ap (λ x. f (get_or (row x) q d)) (get_or-set_other ns p r n none e) ∙ sym (put2-apart (inner row f none d ns) p i (f y) r q e)
    ]

-- an item written whose row is as before
pub inner-kept : {N A B : Type 0} (row : N → List A) (f : A → B) (none : N) (d : A) (ns : List N) (p : ℕ) (n : N) →
    p < length ns → row n ≡ row (get_or ns p none) → inner row f none d (set ns p n) ≡ inner row f none d ns
inner-kept {N} {A} {B} row f none d ns p n l h = fun_ext (λ r. fun_ext (λ q. at r q))
  where
    at : (r q : ℕ) → inner row f none d (set ns p n) r q ≡ inner row f none d ns r q
    at r q = elim (cases_eq r p) [
      | inl e ↦ rw e (ap (λ x. f (get_or (row x) q d)) (get_or-set_same ns p n none l) ∙ ap (λ xs. f (get_or xs q d)) h)
      | inr e ↦ ap (λ x. f (get_or (row x) q d)) (get_or-set_other ns p r n none e)
    ]

-- a write that a map does not see
pub map-kept : {A B : Type 0} (f : A → B) (xs : List A) (i : ℕ) (x d : A) → f x ≡ f (get_or xs i d) → map f (set xs i x) ≡ map f xs
map-kept f xs i x d e =
    map-set f xs i x ∙ ap (set (map f xs) i) e ∙ sym (map-set f xs i (get_or xs i d)) ∙ ap (map f) (set-get_or xs i d)

-- an item added whose row gives what a missing row gives
pub inner-more : {N A B : Type 0} (row : N → List A) (f : A → B) (none : N) (d : A) (ns : List N) (n : N) →
    ((i : ℕ) → f (get_or (row n) i d) ≡ f (get_or (row none) i d)) → inner row f none d (ns ++ n ∷ []) ≡ inner row f none d ns
inner-more {N} {A} {B} row f none d ns n h = fun_ext (λ r. fun_ext (λ q. at ns r q))
  where
    at : (xs : List N) (r q : ℕ) → f (get_or (row (get_or (xs ++ n ∷ []) r none)) q d) ≡ f (get_or (row (get_or xs r none)) q d)
    at [] zero q = h q
    at [] (suc r) q = refl
    at (x ∷ xs) zero q = refl
    at (x ∷ xs) (suc r) q = at xs r q

-- the value that each item gives
abbrev pub outer : {N B : Type 0} → (N → B) → N → List N → ℕ → B
outer f none ns k = f (get_or ns k none)

-- an item written that gives the same value
pub outer-kept : {N B : Type 0} (f : N → B) (none : N) (ns : List N) (p : ℕ) (n : N) → p < length ns → f n ≡ f (get_or ns p none) →
    outer f none (set ns p n) ≡ outer f none ns
outer-kept {N} {B} f none ns p n l h = fun_ext at
  where
    at : (k : ℕ) → outer f none (set ns p n) k ≡ outer f none ns k
    at k = elim (cases_eq k p) [
      | inl e ↦ rw e (ap f (get_or-set_same ns p n none l) ∙ h)
      | inr e ↦ ap f (get_or-set_other ns p k n none e)
    ]

-- an item written that gives another value
pub outer-set : {N B : Type 0} (f : N → B) (none : N) (ns : List N) (p : ℕ) (n : N) → p < length ns → outer f none (set ns p n) ≡ put (outer f none ns) p (f n)
outer-set {N} {B} f none ns p n l = fun_ext at
  where
    at : (k : ℕ) → outer f none (set ns p n) k ≡ put (outer f none ns) p (f n) k
    at k = elim (cases_eq k p) [
      | inl e ↦ rw e (ap f (get_or-set_same ns p n none l) ∙ sym (put-here (outer f none ns) p (f n) p refl))
      | inr e ↦ ap f (get_or-set_other ns p k n none e) ∙ sym (put-apart (outer f none ns) p (f n) k e)
    ]
