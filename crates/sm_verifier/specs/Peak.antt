-- The peak: how many keys one list of a stream's hold has at most.
use Rattle.std.specs.Prelude.{◌≡◌, ◌≤◌, ℕ, length}
use Rattle.sm_reservation.specs.Rights.{Rights}
use Rattle.sm_reservation.specs.Hold.{Hold}
use Rattle.sm_reservation.specs.HoldOf.{hold_of}
use Rattle.sm_reservation.specs.Key.{IsOrdered, IsPositive}
use Rattle.sm_reservation.specs.Capacity.{most_keys}
use Rattle.sm_verifier.specs.Stream.{Course, hold_before}

-- these lists, in order and with no amount of 0, are the hold
pub record IsListing (r : Rights) (h : Hold) : Type 0 where
  pub ordered : IsOrdered r
  pub positive : IsPositive r
  pub hold : hold_of r ≡ h

-- n is the most keys that one list of the stream's hold has, of all positions up to the last one
pub record IsPeakUpTo (s : Course) (last n : ℕ) : Type 0 where
  pub bound : (p : ℕ) → p ≤ last → (r : Rights) × IsListing r (hold_before s p) × (most_keys r ≤ n)
  pub attained : (p : ℕ) × (p ≤ last) × (r : Rights) × IsListing r (hold_before s p) × (most_keys r ≡ n)

-- n is the most keys that one list of the stream's hold has, of all positions
abbrev pub IsPeak : Course → ℕ → Type 0
IsPeak s n = IsPeakUpTo s (length s.code) n
