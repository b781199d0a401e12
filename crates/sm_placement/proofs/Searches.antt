-- Searches and counts over the numbers below n.
use Rattle.std.proofs.Common.{◌≡◌, ◌≢◌, ℕ, zero, suc, ◌+◌, ◌-◌, ◌<◌, ◌≤◌, Bool, true, false, cond, ltb, refl, sym, ap, ◌∙◌, arith, inl, inr, ◌⊎◌, Option, Some, None, List, [], ◌∷◌, length}
use Rattle.std.specs.Option.{option_map}
use Rattle.std.specs.List.{find, filter, range_with_len}
use Rattle.std.proofs.lemmas.Bool.{cases_eq, cases_Bool, or_parts, or_from, or_left, or_right, false_from_ne_true, lt-ltb, le-ltb}
use Rattle.sm_placement.specs.Sums.{put, sum_below, count_below, bit, any_below, first_from}
use Rattle.sm_placement.specs.Opening.{first_below}
use Rattle.sm_placement.proofs.Sums.{put-here, put-apart, same_sum, sum_apart, sum_zero, part_of_sum, bit-le-one}

-- there is an answer or none
pub cases_Option : {A : Type 0} (o : Option A) → (o ≡ None) ⊎ ((x : A) × (o ≡ Some x))
cases_Option None = inl refl
cases_Option (Some x) = inr (x, refl)

-- nothing is made of an answer only where there is none
pub none_mapped : {A B : Type 0} (f : A → B) (o : Option A) → option_map f o ≡ None → o ≡ None
none_mapped f None e = refl
none_mapped f (Some x) e = cc

-- a search that stands at a number
pub find_range_more : (t : ℕ → Bool) (i n : ℕ) → i < n → find t (range_with_len i (n - i)) ≡ cond (t i) (Some i) (find t (range_with_len (i + 1) (n - (i + 1))))
find_range_more t i n h = let e : n - i ≡ suc (n - (i + 1)) = omega arith in ap (λ k. find t (range_with_len i k)) e

-- a search that stands at a number that passes finds that number
pub find_here : (t : ℕ → Bool) (i n : ℕ) → i < n → t i ≡ true → find t (range_with_len i (n - i)) ≡ Some i
find_here t i n h e = find_range_more t i n h ∙ rw e refl

-- a search that stands at a number that doesn't pass goes on behind it
pub find_next : (t : ℕ → Bool) (i n : ℕ) → i < n → t i ≡ false → find t (range_with_len i (n - i)) ≡ find t (range_with_len (i + 1) (n - (i + 1)))
find_next t i n h e = find_range_more t i n h ∙ rw e refl

-- a search that stands at the end
pub find_range_end : (t : ℕ → Bool) (i n : ℕ) → n ≤ i → find t (range_with_len i (n - i)) ≡ None
find_range_end t i n h = let e : n - i ≡ 0 = omega arith in ap (λ k. find t (range_with_len i k)) e

find_none : (t : ℕ → Bool) (a n : ℕ) → find t (range_with_len a n) ≡ None → (k : ℕ) → a ≤ k → k < a + n → t k ≡ false
find_none t a zero e k l h = absurd (omega arith)
find_none t a (suc n) e k l h = elim (cases_Bool (t a)) [
  | inl q ↦ absurd (let z = rw q at e in cc)
  | inr q ↦ elim (cases_eq k a) [
    | inl d ↦ rw d q
    | inr d ↦ find_none t (a + 1) n (rw q at e) k (omega arith) (omega arith)
  ]
]

find_none_from : (t : ℕ → Bool) (a n : ℕ) → ((k : ℕ) → a ≤ k → k < a + n → t k ≡ false) → find t (range_with_len a n) ≡ None
find_none_from t a zero h = refl
find_none_from t a (suc n) h = rw (h a (omega arith) (omega arith)) (find_none_from t (a + 1) n (λ k l m. h k (omega arith) (omega arith)))

find_some : (t : ℕ → Bool) (a n u : ℕ) → find t (range_with_len a n) ≡ Some u → (u < a + n) × (t u ≡ true)
find_some t a zero u e = cc
find_some t a (suc n) u e = elim (cases_Bool (t a)) [
  | inl q ↦ let same : a ≡ u = (let z = rw q at e in cc) in (omega arith, rw (← same) q)
  | inr q ↦ let rest = find_some t (a + 1) n u (rw q at e) in let l : u < a + 1 + n = rest.0 in (omega arith, rest.1)
]

-- nothing is found exactly where nothing passes
pub first_none : (n : ℕ) (t : ℕ → Bool) → first_below n t ≡ None → (k : ℕ) → k < n → t k ≡ false
first_none n t e k l = find_none t 0 n e k (omega arith) (omega arith)

-- where no number below n passes, none is found
pub first_none_from : (n : ℕ) (t : ℕ → Bool) → ((k : ℕ) → k < n → t k ≡ false) → first_below n t ≡ None
first_none_from n t h = find_none_from t 0 n (λ k l m. h k (omega arith))

-- what is found is below n and passes
pub first_some : (n : ℕ) (t : ℕ → Bool) (u : ℕ) → first_below n t ≡ Some u → (u < n) × (t u ≡ true)
first_some n t u e = let f = find_some t 0 n u e in let l : u < 0 + n = f.0 in (omega arith, f.1)

find_same : (t r : ℕ → Bool) (a n : ℕ) → ((k : ℕ) → a ≤ k → k < a + n → t k ≡ r k) → find t (range_with_len a n) ≡ find r (range_with_len a n)
find_same t r a zero h = refl
find_same t r a (suc n) h = rw (h a (omega arith) (omega arith), find_same t r (a + 1) n (λ k l m. h k (omega arith) (omega arith))) refl

-- tests that agree below n find the same number
pub first_same : (n : ℕ) (t r : ℕ → Bool) → ((k : ℕ) → k < n → t k ≡ r k) → first_below n t ≡ first_below n r
first_same n t r h = find_same t r 0 n (λ k l m. h k (omega arith))

-- the first answer of a list of them that stands at a number
pub first_from_more : {A : Type 0} (f : ℕ → Option A) (i n : ℕ) (x : A) → i < n → f i ≡ Some x → first_from i (n - i) f ≡ Some x
first_from_more f i n x h e = let m : n - i ≡ suc (n - (i + 1)) = omega arith in ap (λ k. first_from i k f) m ∙ rw e refl

-- a number without an answer is passed over
pub first_from_pass : {A : Type 0} (f : ℕ → Option A) (i n : ℕ) → i < n → f i ≡ None → first_from i (n - i) f ≡ first_from (i + 1) (n - (i + 1)) f
first_from_pass f i n h e = let m : n - i ≡ suc (n - (i + 1)) = omega arith in ap (λ k. first_from i k f) m ∙ rw e refl

pub first_from_end : {A : Type 0} (f : ℕ → Option A) (i n : ℕ) → n ≤ i → first_from i (n - i) f ≡ None
first_from_end f i n h = let e : n - i ≡ 0 = omega arith in ap (λ k. first_from i k f) e

-- no answer is found exactly where there is none
pub first_from_none : {A : Type 0} (f : ℕ → Option A) (a n : ℕ) → first_from a n f ≡ None → (k : ℕ) → a ≤ k → k < a + n → f k ≡ None
first_from_none f a zero e k l h = absurd (omega arith)
first_from_none f a (suc n) e k l h = elim (cases_Option (f a)) [
  | inl q ↦ elim (cases_eq k a) [
    | inl d ↦ rw d q
    | inr d ↦ first_from_none f (a + 1) n (rw q at e) k (omega arith) (omega arith)
  ]
  | inr q ↦ absurd (let z = rw q.1 at e in cc)
]

-- where no number has an answer, none is found
pub first_from_none_from : {A : Type 0} (f : ℕ → Option A) (a n : ℕ) → ((k : ℕ) → a ≤ k → k < a + n → f k ≡ None) → first_from a n f ≡ None
first_from_none_from f a zero h = refl
first_from_none_from f a (suc n) h = rw (h a (omega arith) (omega arith)) (first_from_none_from f (a + 1) n (λ k l m. h k (omega arith) (omega arith)))

-- some number below n passes, or none does
pub any_none : (n : ℕ) (t : ℕ → Bool) → any_below n t ≡ false → (k : ℕ) → k < n → t k ≡ false
any_none zero t e k l = absurd (omega arith)
any_none (suc n) t e k l = let both = or_parts (t n) (any_below n t) e in elim (cases_eq k n) [
  | inl d ↦ rw d both.0
  | inr d ↦ any_none n t both.1 k (omega arith)
]

-- where no number below n passes, `any_below` says so
pub any_none_from : (n : ℕ) (t : ℕ → Bool) → ((k : ℕ) → k < n → t k ≡ false) → any_below n t ≡ false
any_none_from zero t h = refl
any_none_from (suc n) t h = or_from (t n) (any_below n t) (h n (omega arith)) (any_none_from n t (λ k l. h k (omega arith)))

-- one number below n that passes is enough
pub any_some : (n : ℕ) (t : ℕ → Bool) (k : ℕ) → k < n → t k ≡ true → any_below n t ≡ true
any_some zero t k l e = absurd (omega arith)
any_some (suc n) t k l e = elim (cases_eq k n) [
  | inl d ↦ or_left (t n) (any_below n t) (rw (← d) e)
  | inr d ↦ or_right (t n) (any_below n t) (any_some n t k (omega arith) e)
]

-- two numbers that pass are counted
pub count_two : (n : ℕ) (t : ℕ → Bool) (j k : ℕ) → j < n → k < n → j ≢ k → t j ≡ true → t k ≡ true → 2 ≤ count_below n t
count_two n t j k hj hk apart ej ek =
    let without : ℕ → ℕ = put (λ i. bit (t i)) j 0 in
    let less : sum_below n (λ i. bit (t i)) + 0 ≡ sum_below n without + 1 = sum_apart n (λ i. bit (t i)) without j 0 1 hj (λ i d. sym (put-apart (λ i. bit (t i)) j 0 i d)) (let a : bit (t j) ≡ 1 = rw ej refl in let b : without j ≡ 0 = put-here (λ i. bit (t i)) j 0 j refl in omega arith) in
    let one : without k ≡ 1 = put-apart (λ i. bit (t i)) j 0 k (λ d. apart (sym d)) ∙ rw ek refl in
    let part : without k ≤ sum_below n without = part_of_sum n without k hk in
    omega arith

-- a number that passes is found, where one is counted
pub found_alone : (n : ℕ) (t : ℕ → Bool) (u : ℕ) → count_below n t ≡ 1 → u < n → t u ≡ true → first_below n t ≡ Some u
found_alone n t u one l e = elim (cases_Option (first_below n t)) [
  | inl none ↦ absurd (let z : t u ≡ false = first_none n t none u l in cc)
  | inr some ↦ let at = first_some n t some.0 some.1 in elim (cases_eq some.0 u) [
    | inl d ↦ some.1 ∙ ap Some d
    | inr d ↦ absurd (let two : 2 ≤ count_below n t = count_two n t some.0 u at.0 l d at.1 e in omega arith)
  ]
]

-- where only one number may pass, at most one is counted
pub count_one : (n : ℕ) (t : ℕ → Bool) (u : ℕ) → ((k : ℕ) → k < n → k ≢ u → t k ≡ false) → count_below n t ≤ 1
count_one zero t u h = omega arith
count_one (suc n) t u h = elim (cases_eq n u) [
  | inl d ↦
      let none : count_below n t ≡ 0 = same_sum n (λ k. bit (t k)) (λ k. 0) (λ k l. rw (h k (omega arith) (λ e. absurd (omega arith))) refl) ∙ sum_zero n (λ k. 0) (λ k. refl) in
      let top : bit (t n) ≤ 1 = bit-le-one (t n) in
      omega arith
  | inr d ↦
      let rest : count_below n t ≤ 1 = count_one n t u (λ k l. h k (omega arith)) in
      let top : bit (t n) ≡ 0 = rw (h n (omega arith) d) refl in
      omega arith
]

-- where no number below n passes, the count is 0
pub count_none : (n : ℕ) (t : ℕ → Bool) → ((k : ℕ) → k < n → t k ≡ false) → count_below n t ≡ 0
count_none n t h = same_sum n (λ k. bit (t k)) (λ k. 0) (λ k l. rw (h k l) refl) ∙ sum_zero n (λ k. 0) (λ k. refl)

-- where the count is 0, no number below n passes
pub count_none_at : (n : ℕ) (t : ℕ → Bool) → count_below n t ≡ 0 → (k : ℕ) → k < n → t k ≡ false
count_none_at n t e k l = false_from_ne_true (t k) (λ q. let part : bit (t k) ≤ count_below n t = part_of_sum n (λ i. bit (t i)) k l in let one : bit (t k) ≡ 1 = rw q refl in absurd (omega arith))

-- something below n passes exactly where the count isn't 0
pub any_by_count : (n : ℕ) (t : ℕ → Bool) → any_below n t ≡ ltb 0 (count_below n t)
any_by_count n t = elim (cases_Bool (any_below n t)) [
  | inl e ↦ e ∙ sym (elim (cases_eq (count_below n t) 0) [
    | inl z ↦ absurd (let none : any_below n t ≡ false = any_none_from n t (count_none_at n t z) in cc)
    | inr z ↦ lt-ltb 0 (count_below n t) (omega arith)
  ])
  | inr e ↦ e ∙ sym (le-ltb 0 (count_below n t) (let z : count_below n t ≡ 0 = count_none n t (any_none n t e) in omega arith))
]

-- as many numbers are listed as are counted
filter_length : (t : ℕ → Bool) (a n : ℕ) → length (filter t (range_with_len a n)) ≡ sum_below n (λ k. bit (t (a + k)))
filter_length t a zero = refl
filter_length t a (suc n) =
    let rest : length (filter t (range_with_len (a + 1) n)) ≡ sum_below n (λ k. bit (t (a + (k + 1)))) =
    filter_length t (a + 1) n ∙ same_sum n (λ k. bit (t (a + 1 + k))) (λ k. bit (t (a + (k + 1)))) (λ k l. ap (λ i. bit (t i)) (omega arith)) in
    let all : sum_below (suc n) (λ k. bit (t (a + k))) ≡ bit (t (a + 0)) + sum_below n (λ k. bit (t (a + (k + 1)))) = shift (λ k. bit (t (a + k))) n in
    let at : bit (t (a + 0)) ≡ bit (t a) = ap (λ i. bit (t i)) (omega arith) in
    elim (cases_Bool (t a)) [
      | inl q ↦ let one : bit (t a) ≡ 1 = rw q refl in rw q (omega arith)
      | inr q ↦ let none : bit (t a) ≡ 0 = rw q refl in rw q (omega arith)
    ]
  where
    shift : (f : ℕ → ℕ) (n : ℕ) → sum_below (suc n) f ≡ f 0 + sum_below n (λ k. f (k + 1))
    shift f zero = omega arith
    shift f (suc n) = let e : sum_below (suc n) f ≡ f 0 + sum_below n (λ k. f (k + 1)) = shift f n in let d : f (suc n) ≡ f (n + 1) = ap f (omega arith) in omega arith

-- of the numbers below n, as many are listed as are counted
pub filter_count : (n : ℕ) (t : ℕ → Bool) → length (filter t (range_with_len 0 n)) ≡ count_below n t
filter_count n t = filter_length t 0 n ∙ same_sum n (λ k. bit (t (0 + k))) (λ k. bit (t k)) (λ k l. ap (λ i. bit (t i)) (omega arith))

-- the first number that is listed is the one that is found
pub find_filter : (t : ℕ → Bool) (xs ys : List ℕ) (v : ℕ) → filter t xs ≡ v ∷ ys → find t xs ≡ Some v
find_filter t [] ys v e = cc
find_filter t (x ∷ xs) ys v e = elim (cases_Bool (t x)) [
  | inl q ↦ rw q (let z = rw q at e in cc)
  | inr q ↦ rw q (find_filter t xs ys v (rw q at e))
]

-- nothing is listed where nothing passes
pub none_listed : (t : ℕ → Bool) (a n : ℕ) → ((k : ℕ) → a ≤ k → k < a + n → t k ≡ false) → filter t (range_with_len a n) ≡ []
none_listed t a zero h = refl
none_listed t a (suc n) h = rw (h a (omega arith) (omega arith)) (none_listed t (a + 1) n (λ k l m. h k (omega arith) (omega arith)))

-- where the list of those that pass is empty, none passes
pub none_passes : (t : ℕ → Bool) (a n : ℕ) → filter t (range_with_len a n) ≡ [] → (k : ℕ) → a ≤ k → k < a + n → t k ≡ false
none_passes t a zero e k l m = absurd (omega arith)
none_passes t a (suc n) e k l m = elim (cases_Bool (t a)) [
  | inl q ↦ absurd (let z = rw q at e in cc)
  | inr q ↦ elim (cases_eq k a) [
    | inl d ↦ rw d q
    | inr d ↦ none_passes t (a + 1) n (rw q at e) k (omega arith) (omega arith)
  ]
]

-- the first that passes is listed first, and then those after it
pub first_listed : (t : ℕ → Bool) (a n u : ℕ) → a ≤ u → u < a + n → t u ≡ true → ((k : ℕ) → a ≤ k → k < u → t k ≡ false) →
    filter t (range_with_len a n) ≡ u ∷ filter t (range_with_len (u + 1) (a + n - (u + 1)))
first_listed t a zero u l m e h = absurd (omega arith)
first_listed t a (suc n) u l m e h = elim (cases_eq a u) [
  | inl d ↦
      let here : t a ≡ true = rw d e in
      let more : n ≡ a + suc n - (a + 1) = omega arith in
      rw here (ap (λ k. a ∷ filter t (range_with_len (a + 1) k)) more ∙ ap (λ v. v ∷ filter t (range_with_len (v + 1) (a + suc n - (v + 1)))) d)
  | inr d ↦
      let past : t a ≡ false = h a (omega arith) (omega arith) in
      let same : a + 1 + n - (u + 1) ≡ a + suc n - (u + 1) = omega arith in
      rw past (first_listed t (a + 1) n u (omega arith) (omega arith) e (λ k x y. h k (omega arith) y) ∙ ap (λ k. u ∷ filter t (range_with_len (u + 1) k)) same)
]

-- the first of the list of those that pass is the lowest one, and the rest of the list are those behind it
pub first_passes : (t : ℕ → Bool) (a n u : ℕ) (xs : List ℕ) → filter t (range_with_len a n) ≡ u ∷ xs →
    (a ≤ u) × (u < a + n) × (t u ≡ true) × ((k : ℕ) → a ≤ k → k < u → t k ≡ false) × (filter t (range_with_len (u + 1) (a + n - (u + 1))) ≡ xs)
first_passes t a zero u xs e = cc
first_passes t a (suc n) u xs e = elim (cases_Bool (t a)) [
  | inl q ↦
      let z : a ∷ filter t (range_with_len (a + 1) n) ≡ u ∷ xs = rw q at e in
      let d : a ≡ u = cc in
      let rest : filter t (range_with_len (a + 1) n) ≡ xs = cc in
      let more : a + suc n - (u + 1) ≡ n = omega arith in
      (omega arith, omega arith, rw (← d) q, λ k l m. absurd (omega arith), ap (λ k. filter t (range_with_len (u + 1) k)) more ∙ ap (λ v. filter t (range_with_len (v + 1) n)) (sym d) ∙ rest)
  | inr q ↦
      let r = first_passes t (a + 1) n u xs (rw q at e) in
      let l : a + 1 ≤ u = r.0 in
      let m : u < a + 1 + n = r.1 in
      let same : a + suc n - (u + 1) ≡ a + 1 + n - (u + 1) = omega arith in
      (omega arith, omega arith, r.2, λ k x y. elim (cases_eq k a) [ inl d ↦ rw d q | inr d ↦ r.3 k (omega arith) y ], ap (λ k. filter t (range_with_len (u + 1) k)) same ∙ r.4)
]

-- the one that passes is listed alone
pub one_listed : (t : ℕ → Bool) (n u : ℕ) → u < n → t u ≡ true → ((k : ℕ) → k ≢ u → t k ≡ false) → filter t (range_with_len 0 n) ≡ u ∷ []
one_listed t n u l e h =
    first_listed t 0 n u (omega arith) (omega arith) e (λ k x y. h k (λ d. absurd (omega arith)))
    ∙ ap (λ xs. u ∷ xs) (none_listed t (u + 1) (0 + n - (u + 1)) (λ k x y. h k (λ d. absurd (omega arith))))
