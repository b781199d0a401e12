-- The lowest number from a number on at which there is something.
-- Internal definitions: you need not read them for the public contracts.
use Rattle.std.specs.Prelude.{◌≡◌, ◌≤◌, ◌<◌, ℕ, Option, Some, None, List, [], ◌∷◌, nat_lt, if◌then◌else◌}

-- nothing is at the numbers from one on to below another
abbrev pub IsNothingBetween : (ℕ → ℕ) → ℕ → ℕ → Type 0
IsNothingBetween amount from n = (m : ℕ) → from ≤ m → m < n → amount m ≡ 0

-- something is at the number, and nothing at those below it from a number on
pub record IsNext (amount : ℕ → ℕ) (from n : ℕ) : Type 0 where
  pub behind : from ≤ n
  pub some : 0 < amount n
  pub nothing : IsNothingBetween amount from n

-- the lowest number from a number on at which there is something, or none, if nothing is
abbrev pub IsNextOrNone : (ℕ → ℕ) → ℕ → Option ℕ → Type 0
IsNextOrNone amount from (Some n) = IsNext amount from n
IsNextOrNone amount from None = (m : ℕ) → from ≤ m → amount m ≡ 0

-- the first one of rows that is not below a number
abbrev pub next_number : {T : Type 0} → (T → ℕ) → List T → ℕ → Option ℕ
next_number number [] from = None
next_number number (x ∷ xs) from = if nat_lt (number x) from then next_number number xs from else Some (number x)
