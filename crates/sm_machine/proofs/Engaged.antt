-- The search for a stream that engages a server.
use Rattle.std.proofs.Common.{◌≡◌, ◌<◌, ◌+◌, ◌-◌, ◌∙◌, ℕ, Bool, Option, Some, None, sym}
use Rattle.std.specs.Prelude.{if◌then◌else◌}
use Rattle.sm_placement.specs.Sums.{first_from}
use Rattle.sm_placement.proofs.Searches.{first_from_more, first_from_pass}
use Rattle.sm_reservation.specs.declared.stream_id.StreamId.{StreamId}

-- those from n on answer as all do
abbrev pub IsLeft : {A : Type 0} → (ℕ → Option A) → ℕ → ℕ → Type 0
IsLeft f count n = first_from n (count - n) f ≡ first_from 0 count f

-- where those from n on answer as all do, an answer at n is that of all
pub found : {A : Type 0} (f : ℕ → Option A) (count n : ℕ) (x : A) → IsLeft f count n → n < count → f n ≡ Some x → Some x ≡ first_from 0 count f
found f count n x left l e = sym (first_from_more f n count x l e) ∙ left

-- and where n has no answer, those behind it answer as all do
pub passed : {A : Type 0} (f : ℕ → Option A) (count n : ℕ) → IsLeft f count n → n < count → f n ≡ None → IsLeft f count (n + 1)
passed f count n left l e = sym (first_from_pass f n count l e) ∙ left

-- the stream, where a test holds
abbrev pub chosen : StreamId → Bool → Option StreamId
chosen id t = if t then Some id else None
