-- Functions that differ at one place, and what is counted of them.
use Rattle.std.proofs.Common.{◌≡◌, ◌≢◌, ℕ, ◌+◌, Bool, refl, ap, arith, inl, inr}
use Rattle.std.proofs.lemmas.Bool.{cases_eq}
use Rattle.sm_placement.specs.Sums.{put, put2, bit}
use Rattle.sm_placement.proofs.Sums.{put-here, put-apart, put2-here, put2-row, put2-apart}

-- g is f with another value at k
pub record Changed {A : Type 0} (f g : ℕ → A) (k : ℕ) (x : A) : Type 0 where
  pub here : g k ≡ x
  pub apart : (q : ℕ) → q ≢ k → g q ≡ f q

-- g is f with another value at the pair of s and v
pub record Changed2 {A : Type 0} (f g : ℕ → ℕ → A) (s v : ℕ) (x : A) : Type 0 where
  pub here : g s v ≡ x
  pub row : (q : ℕ) → q ≢ v → g s q ≡ f s q
  pub apart : (r q : ℕ) → r ≢ s → g r q ≡ f r q

-- a value put into a function at a number changes it there alone
pub put_changed : {A : Type 0} (f : ℕ → A) (k : ℕ) (x : A) → Changed f (put f k x) k x
put_changed f k x = record { here = put-here f k x k refl; apart = λ q e. put-apart f k x q e }

-- it is changed there to what it then has there
pub put_moved : {A : Type 0} (f : ℕ → A) (k : ℕ) (x : A) → Changed f (put f k x) k (put f k x k)
put_moved f k x = record { here = refl; apart = λ q e. put-apart f k x q e }

-- a value put into a function of pairs at one pair changes it there alone
pub put2_changed : {A : Type 0} (f : ℕ → ℕ → A) (s v : ℕ) (x : A) → Changed2 f (put2 f s v x) s v x
put2_changed f s v x = record { here = put2-here f s v x; row = λ q e. put2-row f s v x q e; apart = λ r q e. put2-apart f s v x r q e }

-- a function that stays as it is counts as changed to the value that it has
pub unchanged : {A : Type 0} (f : ℕ → A) (k : ℕ) → Changed f f k (f k)
unchanged f k = record { here = refl; apart = λ q e. refl }

-- where a value changes at one pair, what is made of the values changes there alone
pub mapped2 : {A B : Type 0} (m : A → B) (f g : ℕ → ℕ → A) (s v : ℕ) (x : A) → Changed2 f g s v x → Changed2 (λ r q. m (f r q)) (λ r q. m (g r q)) s v (m x)
mapped2 m f g s v x ch = record { here = ap m ch.here; row = λ q e. ap m (ch.row q e); apart = λ r q e. ap m (ch.apart r q e) }

-- If two functions agree at the place before and after, a count of the one moves as the same count of the other.
pub count_moves : {A : Type 0} (t : A → Bool) (f f' g g' : ℕ → ℕ → A) (s v : ℕ) (x : A) → f s v ≡ g s v → Changed2 f f' s v x → Changed2 g g' s v x →
    (r q : ℕ) → bit (t (g' r q)) + bit (t (f r q)) ≡ bit (t (g r q)) + bit (t (f' r q))
count_moves t f f' g g' s v x same cf cg r q = elim (cases_eq r s) [
  | inl d ↦ elim (cases_eq q v) [
    | inl e ↦ rw (d, e) (rw (cf.here, cg.here, same) (omega arith))
    | inr e ↦ rw d (rw (cf.row q e, cg.row q e) refl)
  ]
  | inr d ↦ rw (cf.apart r q d, cg.apart r q d) refl
]
