-- Functions of numbers that are set at one of them, and what is counted and summed of them.
use Rattle.std.proofs.Common.{◌≡◌, ◌≢◌, ◌⊎◌, ℕ, ◌+◌, ◌<◌, ◌≤◌, true, false, refl, sym, ap, arith, inl, inr, subst, suc, zero, Bool}
use Rattle.std.proofs.lemmas.Bool.{cases_eq, cases_Bool}
use Rattle.sm_placement.proofs.Sums.{put2-here, put2-row, put2-apart, put-here, put-apart, sum_apart, same_sum, bit-le-one}
use Rattle.sm_placement.specs.Sums.{put2, put, bit, sum_below, count_below, any_below}

-- a place of a function of two numbers is the one set, with the new value there, or another one, with the old value
pub put2_cases : {A : Type 0} (f : ℕ → ℕ → A) (s v : ℕ) (x : A) (r u : ℕ) →
    ((r ≡ s) × (u ≡ v) × (put2 f s v x r u ≡ x)) ⊎ (((r ≡ s) × (u ≡ v) → ⊥) × (put2 f s v x r u ≡ f r u))
put2_cases f s v x r u = elim (cases_eq r s) [
  | inr e ↦ inr ((λ h. e h.0), put2-apart f s v x r u e)
  | inl e ↦ elim (cases_eq u v) [
    | inr d ↦ inr ((λ h. d h.1), subst (λ q. put2 f s v x q u ≡ f q u) (sym e) (put2-row f s v x u d))
    | inl d ↦ inl (e, d, subst (λ q. put2 f s v x q u ≡ x) (sym e) (subst (λ q. put2 f s v x s q ≡ x) (sym d) (put2-here f s v x)))
  ]
]

-- what holds of the new value at a number, and of the old one at each other number
pub put_each : {A : Type 0} (f : ℕ → A) (q : ℕ) (z : A) (P : ℕ → A → Type 0) → P q z → ((k : ℕ) → k ≢ q → P k (f k)) → (k : ℕ) → P k (put f q z k)
put_each f q z P here apart k = elim (cases_eq k q) [
  | inl e ↦ subst (P k) (sym (put-here f q z k e)) (subst (λ n. P n z) (sym e) here)
  | inr e ↦ subst (P k) (sym (put-apart f q z k e)) (apart k e)
]

-- where one number is set, at most one more passes
pub count_put : (n : ℕ) (down : ℕ → Bool) (v : ℕ) (b : Bool) → count_below n (put down v b) ≤ count_below n down + 1
count_put zero down v b = omega arith
count_put (suc n) down v b = elim (cases_eq n v) [
  | inl e ↦
      let same : count_below n (put down v b) ≡ count_below n down = same_sum n _ _ (λ k l. ap bit (put-apart down v b k (λ q. omega arith))) in
      let a = bit-le-one (put down v b n) in
      omega arith
  | inr e ↦ let f : bit (put down v b n) ≡ bit (down n) = ap bit (put-apart down v b n e) in let a = count_put n down v b in omega arith
]

-- where one that passed no longer does, one fewer passes
pub count_put_down : (n : ℕ) (down : ℕ → Bool) (v : ℕ) → v < n → down v ≡ true → count_below n (put down v false) + 1 ≡ count_below n down
count_put_down n down v l e =
    let a : bit (put down v false v) ≡ 0 = ap bit (put-here down v false v refl) in
    let b : bit (down v) ≡ 1 = ap bit e in
    let c = sum_apart n (λ k. bit (put down v false k)) (λ k. bit (down k)) v 1 0 l (λ k q. ap bit (put-apart down v false k q)) (omega arith) in
    omega arith

-- a sum of parts that are no more than others
pub sum_below_le : (n : ℕ) (f g : ℕ → ℕ) → ((k : ℕ) → f k ≤ g k) → sum_below n f ≤ sum_below n g
sum_below_le zero f g l = omega arith
sum_below_le (suc n) f g l = let a = sum_below_le n f g l in let b = l n in omega arith

-- where any below n passes, some number does
pub some_below : (n : ℕ) (t : ℕ → Bool) → any_below n t ≡ true → (i : ℕ) × (i < n) × (t i ≡ true)
some_below zero t e = absurd (cc)
some_below (suc n) t e = elim (cases_Bool (t n)) [
  | inl h ↦ (n, omega arith, h)
  | inr h ↦ let b : any_below n t ≡ true = rw h at e in let r = some_below n t b in (r.0, (let l = r.1 in omega arith), r.2)
]
