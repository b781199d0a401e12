-- Sums of a function over the numbers below n, and a function changed at one place.
use Rattle.std.proofs.Common.{◌≡◌, ◌≢◌, ℕ, zero, suc, ◌+◌, ◌*◌, ◌<◌, ◌≤◌, Bool, true, false, refl, sym, ap, ◌∙◌, arith, inl, inr, subst}
use Rattle.std.proofs.Math.Path.{fun_ext}
use Rattle.std.proofs.lemmas.Bool.{cases_eq, eq-eqb, ne_eqb}
use Rattle.sm_placement.specs.Sums.{put, put2, sum_below, bit, count_below}

-- f with another value at k has that value at k
pub put-here : {A : Type 0} (f : ℕ → A) (k : ℕ) (x : A) (q : ℕ) → q ≡ k → put f k x q ≡ x
put-here f k x q e = rw (eq-eqb q k e)

-- f with another value at k is f everywhere else
pub put-apart : {A : Type 0} (f : ℕ → A) (k : ℕ) (x : A) (q : ℕ) → q ≢ k → put f k x q ≡ f q
put-apart f k x q e = rw (ne_eqb q k e)

-- a function that is put where it is anyway is what it was
pub put-same : {A : Type 0} (f : ℕ → A) (k : ℕ) (x : A) → f k ≡ x → put f k x ≡ f
put-same f k x h = fun_ext (λ q. elim (cases_eq q k) [
  | inl e ↦ put-here f k x q e ∙ sym h ∙ ap f (sym e)
  | inr e ↦ put-apart f k x q e
])

-- of a pair
pub put2-same : {A : Type 0} (f : ℕ → ℕ → A) (s v : ℕ) (x : A) → f s v ≡ x → put2 f s v x ≡ f
put2-same f s v x h = put-same f s (put (f s) v x) (sym (put-same (f s) v x h))

-- f with another value at a pair has that value at the pair
pub put2-here : {A : Type 0} (f : ℕ → ℕ → A) (s v : ℕ) (x : A) → put2 f s v x s v ≡ x
put2-here f s v x = ap (λ g. g v) (put-here f s (put (f s) v x) s refl) ∙ put-here (f s) v x v refl

-- f with another value at a pair is f at each other number of the pair's row
pub put2-row : {A : Type 0} (f : ℕ → ℕ → A) (s v : ℕ) (x : A) (v' : ℕ) → v' ≢ v → put2 f s v x s v' ≡ f s v'
put2-row f s v x v' e = ap (λ g. g v') (put-here f s (put (f s) v x) s refl) ∙ put-apart (f s) v x v' e

-- f with another value at a pair is f in each other row
pub put2-apart : {A : Type 0} (f : ℕ → ℕ → A) (s v : ℕ) (x : A) (s' v' : ℕ) → s' ≢ s → put2 f s v x s' v' ≡ f s' v'
put2-apart f s v x s' v' e = ap (λ g. g v') (put-apart f s (put (f s) v x) s' e)

-- two functions that agree below n have the same sum
pub same_sum : (n : ℕ) (f g : ℕ → ℕ) → ((k : ℕ) → k < n → f k ≡ g k) → sum_below n f ≡ sum_below n g
same_sum zero f g h = refl
same_sum (suc n) f g h =
    let e : sum_below n f ≡ sum_below n g = same_sum n f g (λ k l. h k (omega arith)) in
    let d : f n ≡ g n = h n (omega arith) in
    omega arith

-- the sum of what two functions add up to is the sum of their sums
pub sum_of_both : (n : ℕ) (f g : ℕ → ℕ) → sum_below n (λ k. f k + g k) ≡ sum_below n f + sum_below n g
sum_of_both zero f g = refl
sum_of_both (suc n) f g = let e : sum_below n (λ k. f k + g k) ≡ sum_below n f + sum_below n g = sum_of_both n f g in omega arith

-- two functions that differ at one place
pub sum_apart : (n : ℕ) (f g : ℕ → ℕ) (k a b : ℕ) → k < n → ((j : ℕ) → j ≢ k → f j ≡ g j) → f k + a ≡ g k + b → sum_below n f + a ≡ sum_below n g + b
sum_apart zero f g k a b l others here = absurd (omega arith)
sum_apart (suc n) f g k a b l others here = elim (cases_eq k n) [
  | inl e ↦
      let d : sum_below n f ≡ sum_below n g = same_sum n f g (λ j m. others j (λ q. absurd (omega arith))) in
      let i : f n + a ≡ g n + b = subst (λ j. f j + a ≡ g j + b) e here in
      omega arith
  | inr e ↦
      let l' : k < n = omega arith in
      let d : sum_below n f + a ≡ sum_below n g + b = sum_apart n f g k a b l' others here in
      let i : f n ≡ g n = others n (λ q. e (sym q)) in
      omega arith
]

-- a function that is 0 everywhere adds up to 0
pub sum_zero : (n : ℕ) (f : ℕ → ℕ) → ((k : ℕ) → f k ≡ 0) → sum_below n f ≡ 0
sum_zero zero f h = refl
sum_zero (suc n) f h = let e : sum_below n f ≡ 0 = sum_zero n f h in let d : f n ≡ 0 = h n in omega arith

-- where each value but that at k is 0, the sum is the value at k
pub sum_one : (n : ℕ) (f : ℕ → ℕ) (k : ℕ) → k < n → ((j : ℕ) → j ≢ k → f j ≡ 0) → sum_below n f ≡ f k
sum_one n f k l h =
    let e : sum_below n f + 0 ≡ sum_below n (λ j. 0) + f k = sum_apart n f (λ j. 0) k 0 (f k) l h (omega arith) in
    let z : sum_below n (λ j. 0) ≡ 0 = sum_zero n (λ j. 0) (λ j. refl) in
    omega arith

-- no value below n is above the sum
pub part_of_sum : (n : ℕ) (f : ℕ → ℕ) (k : ℕ) → k < n → f k ≤ sum_below n f
part_of_sum zero f k l = absurd (omega arith)
part_of_sum (suc n) f k l = elim (cases_eq k n) [
  | inl e ↦ let i : f k ≡ f n = ap f e in omega arith
  | inr e ↦ let l' : k < n = omega arith in let d : f k ≤ sum_below n f = part_of_sum n f k l' in omega arith
]

-- two functions that differ at two places
pub sum_two_apart : (n : ℕ) (f g : ℕ → ℕ) (j k : ℕ) → j < n → k < n → j ≢ k → ((i : ℕ) → i ≢ j → i ≢ k → f i ≡ g i) →
    sum_below n f + (g j + g k) ≡ sum_below n g + (f j + f k)
sum_two_apart n f g j k l m d others =
    let h : ℕ → ℕ = put f j (g j) in
    let hj : h j ≡ g j = put-here f j (g j) j refl in
    let hk : h k ≡ f k = put-apart f j (g j) k (λ e. d (sym e)) in
    let a : sum_below n f + g j ≡ sum_below n h + f j = sum_apart n f h j (g j) (f j) l (λ i e. sym (put-apart f j (g j) i e)) (omega arith) in
    let at : (i : ℕ) → i ≢ k → h i ≡ g i = λ i e. elim (cases_eq i j) [
      | inl q ↦ put-here f j (g j) i q ∙ ap g (sym q)
      | inr q ↦ put-apart f j (g j) i q ∙ others i q e
    ] in
    let b : sum_below n h + g k ≡ sum_below n g + h k = sum_apart n h g k (g k) (h k) m at (omega arith) in
    omega arith

-- a test adds at most 1 to a count
pub bit-le-one : (b : Bool) → bit b ≤ 1
bit-le-one true = omega arith
bit-le-one false = omega arith

-- at most n of the numbers below n pass
pub count-le : (n : ℕ) (t : ℕ → Bool) → count_below n t ≤ n
count-le zero t = omega arith
count-le (suc n) t = let e : count_below n t ≤ n = count-le n t in let d : bit (t n) ≤ 1 = bit-le-one (t n) in omega arith

-- a sum of n parts, none above m
pub sum-le : (n m : ℕ) (f : ℕ → ℕ) → ((k : ℕ) → k < n → f k ≤ m) → sum_below n f ≤ n * m
sum-le zero m f h = omega arith
sum-le (suc n) m f h =
    let e : sum_below n f ≤ n * m = sum-le n m f (λ k l. h k (omega arith)) in
    let d : f n ≤ m = h n (omega arith) in
    grind arith
