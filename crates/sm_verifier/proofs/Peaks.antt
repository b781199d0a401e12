-- The most keys that one list of a stream's hold has, one position after another.
use Rattle.std.proofs.Common.{◌≡◌, ◌+◌, ℕ, max, sym, arith, inl, inr}
use Rattle.std.proofs.lemmas.Bool.{cases_lt}
use Rattle.sm_reservation.specs.Rights.{Rights}
use Rattle.sm_reservation.specs.Hold.{Hold}
use Rattle.sm_reservation.specs.HoldOf.{hold_of}
use Rattle.sm_reservation.specs.Capacity.{most_keys}
use Rattle.sm_verifier.specs.Stream.{Course, hold_before}
use Rattle.sm_verifier.specs.Peak.{IsListing, IsPeakUpTo}

-- lists in order are a listing of every hold that equals theirs
pub listing_at : (r : Rights) (h : Hold) → IsListing r (hold_of r) → hold_of r ≡ h → IsListing r h
listing_at r h l e = record { ordered = l.ordered; positive = l.positive; hold = e }

-- at the start the peak is how many keys the longest list has there
pub peak_start : (s : Course) (n : ℕ) (r : Rights) → IsListing r (hold_before s 0) → n ≡ most_keys r → IsPeakUpTo s 0 n
peak_start s n r listing e = record {
  bound = λ p l. let z : p ≡ 0 = omega arith in rw z (r, listing, rw e (omega arith));
  attained = (0, omega arith, r, listing, sym e);
}

-- at the next position it is what it was or how many keys the longest list has there, whichever is more
pub peak_next : (s : Course) (p n m : ℕ) (r : Rights) → IsPeakUpTo s p n → IsListing r (hold_before s (p + 1)) → m ≡ most_keys r → IsPeakUpTo s (p + 1) (max n m)
peak_next s p n m r peak listing e = record {
  bound = λ q l. elim (cases_lt q (p + 1)) [
    | inl before ↦ let b = peak.bound q (omega arith) in let k = b.2 in (b.0, b.1, omega arith)
    | inr after ↦ let here : q ≡ p + 1 = omega arith in rw here (r, listing, rw (← e) (omega arith))
  ];
  attained = elim (cases_lt n m) [
    | inl less ↦ (p + 1, omega arith, r, listing, rw (← e) (omega arith))
    | inr more ↦ let a = peak.attained in (a.0, omega arith, a.2, a.3, let k = a.4 in omega arith)
  ];
}
