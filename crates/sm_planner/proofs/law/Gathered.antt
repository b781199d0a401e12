-- Lists that are gathered from numbered parts: each part goes into the list of its number's class.
use Rattle.std.proofs.Common.{◌≡◌, ◌≢◌, ℕ, zero, suc, ◌+◌, ◌<◌, ◌≤◌, Bool, true, cond, List, [], ◌∷◌, ◌++◌, refl, sym, ap, ◌∙◌, arith, inl, inr, ◌⊎◌, subst, append_assoc, append-nil, zero-add}
use Rattle.std.specs.Prelude.{◌==◌, filter, map}
use Rattle.std.specs.List.{flat_map, range_with_len, AllByRecursion}
use Rattle.std.proofs.lemmas.Bool.{cases_Bool, cases_eq, eq-eqb, ne_eqb}
use Rattle.std.proofs.lemmas.List.Elements.{filter-append}
use Rattle.std.proofs.lemmas.List.Concat.{flat_map-append}
use Rattle.sm_planner.proofs.Ranges.{range_suc}

-- what `count_by` adds for an element that passes, or does not
abbrev pub hit : Bool → ℕ
hit b = cond b 1 0

module _ {X : Type 0} (class : ℕ → ℕ) (part : ℕ → List X) where
  -- the parts of a class among the first n
  abbrev pub gathered : ℕ → ℕ → List X
  gathered n i = flat_map part (filter (λ k. class k == i) (range_with_len 0 n))

  one_part : (n i : ℕ) → gathered (suc n) i ≡ gathered n i ++ flat_map part (filter (λ k. class k == i) (n ∷ []))
  one_part n i =
      ap (λ ks. flat_map part (filter (λ k. class k == i) ks)) (range_suc n)
      ∙ ap (flat_map part) (filter-append (λ k. class k == i) (range_with_len 0 n) (n ∷ []))
      ∙ flat_map-append part (filter (λ k. class k == i) (range_with_len 0 n)) (filter (λ k. class k == i) (n ∷ []))

  -- a part of the class comes to the end of what is gathered
  pub gathered_own : (n i : ℕ) → class n ≡ i → gathered (suc n) i ≡ gathered n i ++ part n
  gathered_own n i own = one_part n i ∙ rw (eq-eqb (class n) i own) (rw (append-nil (part n)) refl)

  -- a part of another class leaves what is gathered as it is
  pub gathered_other : (n i : ℕ) → class n ≢ i → gathered (suc n) i ≡ gathered n i
  gathered_other n i other = one_part n i ∙ rw (ne_eqb (class n) i other) (append-nil (gathered n i))

  -- what is gathered up to a number begins with what is gathered up to a lower one
  pub gathered_begins : (n d i : ℕ) → (rest : List X) × (gathered (d + n) i ≡ gathered n i ++ rest)
  gathered_begins n zero i = ([], rw zero-add (sym (append-nil (gathered n i))))
  gathered_begins n (suc d) i =
      let before = gathered_begins n d i in
      let next : suc d + n ≡ suc (d + n) = omega arith in
      elim (cases_eq (class (d + n)) i) [
        | inl own ↦ (before.0 ++ part (d + n), rw next (gathered_own (d + n) i own ∙ rw before.1 (append_assoc (gathered n i) before.0 (part (d + n)))))
        | inr other ↦ (before.0, rw next (gathered_other (d + n) i other ∙ before.1))
      ]

-- ---- elements

-- the element stands in the list
abbrev pub StandsIn : {X : Type 0} → X → List X → Type 0
StandsIn x [] = ⊥
StandsIn x (y ∷ ys) = (y ≡ x) ⊎ StandsIn x ys

-- what stands in the first of two lists stands in both put together
pub stands_left : {X : Type 0} (x : X) (xs ys : List X) → StandsIn x xs → StandsIn x (xs ++ ys)
stands_left x [] ys s = absurd s
stands_left x (y ∷ xs) ys s = elim s [ inl here ↦ inl here | inr there ↦ inr (stands_left x xs ys there) ]

-- what stands in the second of two lists stands in both put together
pub stands_right : {X : Type 0} (x : X) (xs ys : List X) → StandsIn x ys → StandsIn x (xs ++ ys)
stands_right x [] ys s = s
stands_right x (y ∷ xs) ys s = inr (stands_right x xs ys s)

-- each number below n stands among those below n
pub stands_in_range : (n k : ℕ) → k < n → StandsIn k (range_with_len 0 n)
stands_in_range zero k l = absurd (omega arith)
stands_in_range (suc n) k l = subst (λ ks. StandsIn k ks) (sym (range_suc n)) (elim (cases_eq n k) [
  | inl same ↦ stands_right k (range_with_len 0 n) (n ∷ []) (inl same)
  | inr other ↦ stands_left k (range_with_len 0 n) (n ∷ []) (stands_in_range n k (omega arith))
])

-- the image of an element that passes stands among the images of those that pass
pub stands_picked : {X Y : Type 0} (f : X → Y) (test : X → Bool) (x : X) (xs : List X) → test x ≡ true → StandsIn x xs → StandsIn (f x) (map f (filter test xs))
stands_picked f test x [] passes s = absurd s
stands_picked {X} {Y} f test x (y ∷ xs) passes s = elim s [
  | inl here ↦ (let passed : test y ≡ true = ap test here ∙ passes in rw passed (inl (ap f here)))
  | inr there ↦ elim (cases_Bool (test y)) [
    | inl passed ↦ rw passed (inr (stands_picked f test x xs passes there))
    | inr failed ↦ rw failed (stands_picked f test x xs passes there)
  ]
]

-- ---- what holds of each element

-- what holds throughout two lists holds throughout both put together
pub all_both : {X : Type 0} (P : X → Type 0) (xs ys : List X) → AllByRecursion P xs → AllByRecursion P ys → AllByRecursion P (xs ++ ys)
all_both P [] ys a b = b
all_both P (x ∷ xs) ys a b = (a.0, all_both P xs ys a.1 b)

-- what holds of the image of each element that passes holds throughout the images of those that pass
pub all_picked : {X Y : Type 0} (P : Y → Type 0) (f : X → Y) (test : X → Bool) (xs : List X) → ((x : X) → StandsIn x xs → test x ≡ true → P (f x)) → AllByRecursion P (map f (filter test xs))
all_picked P f test [] each = tt
all_picked P f test (x ∷ xs) each = elim (cases_Bool (test x)) [
  | inl passed ↦ rw passed (each x (inl refl) passed, all_picked P f test xs (λ y s. each y (inr s)))
  | inr failed ↦ rw failed (all_picked P f test xs (λ y s. each y (inr s)))
]

-- what holds throughout the list of each element holds throughout all these lists put together
pub all_of_parts : {X Y : Type 0} (P : Y → Type 0) (f : X → List Y) (xs : List X) → ((x : X) → StandsIn x xs → AllByRecursion P (f x)) → AllByRecursion P (flat_map f xs)
all_of_parts P f [] each = tt
all_of_parts P f (x ∷ xs) each = all_both P (f x) (flat_map f xs) (each x (inl refl)) (all_of_parts P f xs (λ y s. each y (inr s)))

pub all_stand : {X : Type 0} (P : X → Type 0) (x : X) (xs : List X) → AllByRecursion P xs → StandsIn x xs → P x
all_stand P x [] a s = absurd s
all_stand P x (y ∷ xs) a s = elim s [ inl here ↦ rw (← here) a.0 | inr there ↦ all_stand P x xs a.1 there ]

below_range : (n : ℕ) → AllByRecursion (λ k. k < n) (range_with_len 0 n)
below_range n = go n n (omega arith)
  where
    go : (m n : ℕ) → m ≤ n → AllByRecursion (λ k. k < n) (range_with_len 0 m)
    go zero n l = tt
    go (suc m) n l = subst (λ ks. AllByRecursion (λ k. k < n) ks) (sym (range_suc m)) (all_both (λ k. k < n) (range_with_len 0 m) (m ∷ []) (go m n (omega arith)) (omega arith, tt))

-- what stands among the numbers below n is below n
pub stands_below : (n k : ℕ) → StandsIn k (range_with_len 0 n) → k < n
stands_below n k s = all_stand (λ j. j < n) k (range_with_len 0 n) (below_range n) s
