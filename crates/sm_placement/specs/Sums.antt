-- Functions of numbers: changed at one place, added up, searched.
use Rattle.std.specs.Prelude.{ℕ, zero, suc, ◌+◌, ◌==◌, ◌||◌, Bool, true, false, Option, Some, None, if◌then◌else◌}

-- f with another value at k
abbrev pub put : {A : Type 0} → (ℕ → A) → ℕ → A → ℕ → A
put f k x q = if q == k then x else f q

-- f with another value at the pair of s and v
abbrev pub put2 : {A : Type 0} → (ℕ → ℕ → A) → ℕ → ℕ → A → ℕ → ℕ → A
put2 f s v x = put f s (put (f s) v x)

-- f 0 + .. + f (n - 1)
abbrev pub sum_below : ℕ → (ℕ → ℕ) → ℕ
sum_below zero f = 0
sum_below (suc n) f = sum_below n f + f n

-- what a test adds to a count
abbrev pub bit : Bool → ℕ
bit true = 1
bit false = 0

-- how many numbers below n pass
abbrev pub count_below : ℕ → (ℕ → Bool) → ℕ
count_below n t = sum_below n (λ k. bit (t k))

-- some number below n passes
abbrev pub any_below : ℕ → (ℕ → Bool) → Bool
any_below zero t = false
any_below (suc n) t = t n || any_below n t

-- the first answer among those at 0, 1, .. below n
abbrev pub first_from : {A : Type 0} → ℕ → ℕ → (ℕ → Option A) → Option A
first_from at zero f = None
first_from at (suc n) f = first_of (f at) (first_from (at + 1) n f)
  where
    first_of : {A : Type 0} → Option A → Option A → Option A
    first_of None o = o
    first_of (Some x) o = Some x
