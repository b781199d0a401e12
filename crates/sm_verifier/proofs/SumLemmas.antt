-- Sums over a list are sums over its numbers; parts of a sum.
use Rattle.std.proofs.Common.{◌≡◌, ◌≢◌, ℕ, zero, suc, ◌+◌, ◌<◌, ◌≤◌, List, [], ◌∷◌, length, get_or, refl, ap, ◌∙◌, inl, inr, arith}
use Rattle.std.specs.Prelude.{sum_by}
use Rattle.std.proofs.lemmas.Bool.{cases_eq}
use Rattle.std.proofs.lemmas.List.Sums.{sum_by-cons}
use Rattle.sm_placement.specs.Sums.{sum_below}
use Rattle.sm_placement.proofs.Sums.{same_sum, sum_zero, part_of_sum}

-- the first part of a sum apart from the others
pub sum_below-front : (n : ℕ) (f : ℕ → ℕ) → sum_below (suc n) f ≡ f 0 + sum_below n (λ k. f (suc k))
sum_below-front zero f = omega arith
sum_below-front (suc n) f = let e = sum_below-front n f in omega arith

-- a sum over a list is the sum over the numbers of its elements
pub sum_by-below : {X : Type 0} (f : X → ℕ) (xs : List X) (d : X) → sum_by f xs ≡ sum_below (length xs) (λ i. f (get_or xs i d))
sum_by-below f [] d = refl
sum_by-below f (x ∷ xs) d =
    let a = sum_by-cons f x xs in
    let b = sum_by-below f xs d in
    let e : sum_below (suc (length xs)) (λ i. f (get_or (x ∷ xs) i d)) ≡ f x + sum_below (length xs) (λ i. f (get_or xs i d)) = sum_below-front (length xs) (λ i. f (get_or (x ∷ xs) i d)) in
    omega arith

-- where one part at most is not 0, the sum is no more than what each part is no more than
pub sum_once : (n m : ℕ) (f : ℕ → ℕ) → ((i : ℕ) → i < n → f i ≤ m) → ((i j : ℕ) → i < n → j < n → 0 < f i → 0 < f j → i ≡ j) → sum_below n f ≤ m
sum_once zero m f each once = omega arith
sum_once (suc n) m f each once = elim (cases_eq (f n) 0) [
  | inl none ↦
      let rest : sum_below n f ≤ m = sum_once n m f (λ i l. each i (omega arith)) (λ i j l k. once i j (omega arith) (omega arith)) in
      omega arith
  | inr some ↦
      let rest : sum_below n f ≡ 0 = same_sum n f (λ i. 0) (λ i l. other i l (omega arith)) ∙ sum_zero n (λ i. 0) (λ i. refl) in
      let here = each n (omega arith) in
      omega arith
]
  where
    other : (i : ℕ) → i < n → 0 < f n → f i ≡ 0
    other i l here = elim (cases_eq (f i) 0) [ inl none ↦ none | inr some ↦ let same = once i n (omega arith) (omega arith) (omega arith) here in absurd (omega arith) ]

-- two parts of a sum
pub two_of_sum : (n : ℕ) (f : ℕ → ℕ) (i j : ℕ) → i < n → j < n → i ≢ j → f i + f j ≤ sum_below n f
two_of_sum zero f i j l m apart = absurd (omega arith)
two_of_sum (suc n) f i j l m apart = elim (cases_eq i n) [
  | inl top ↦
      let part : f j ≤ sum_below n f = part_of_sum n f j (elim (cases_eq j n) [ inl same ↦ absurd (apart (omega arith)) | inr other ↦ omega arith ]) in
      let same : f i ≡ f n = ap f top in
      omega arith
  | inr low ↦ elim (cases_eq j n) [
    | inl top ↦
        let part : f i ≤ sum_below n f = part_of_sum n f i (omega arith) in
        let same : f j ≡ f n = ap f top in
        omega arith
    | inr lower ↦ let rest : f i + f j ≤ sum_below n f = two_of_sum n f i j (omega arith) (omega arith) apart in omega arith
  ]
]
