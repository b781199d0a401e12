-- All rights true of a placement, as they are put into a pool one after another.
use Rattle.std.proofs.Common.{◌≡◌, ℕ, ◌<◌, ◌≤◌}

-- a function that is filled up from 0: f is as g below n, and the same everywhere else
pub record IsDoneTo {A : Type 0} (f g : ℕ → A) (n : ℕ) (none : A) : Type 0 where
  pub done : (k : ℕ) → k < n → f k ≡ g k
  pub rest : (k : ℕ) → n ≤ k → f k ≡ none
