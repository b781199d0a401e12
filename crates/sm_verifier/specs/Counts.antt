-- Counts in lists: a list of numbers with one for each signal.
-- Internal definitions: you need not read them for the public contracts.
use Rattle.std.specs.Prelude.{◌≡◌, ◌<◌, ◌+◌, ℕ, List, length, slice_index}

-- the number at each place has grown by this much
pub record IsRaised (old new : List ℕ) (by : ℕ → ℕ) : Type 0 where
  pub count : length new ≡ length old
  pub each : (k : ℕ) → k < length old → slice_index new k ≡ slice_index old k + by k

-- the list has the first n counts
pub record AreCounts (n : ℕ) (count : ℕ → ℕ) (counts : List ℕ) : Type 0 where
  pub length_is : length counts ≡ n
  pub each : (k : ℕ) → k < n → slice_index counts k ≡ count k

-- both counts at a place are 1
abbrev pub IsOnceAt : List ℕ → List ℕ → ℕ → Type 0
IsOnceAt posts waits k = (slice_index posts k ≡ 1) × (slice_index waits k ≡ 1)
