-- The rights that streams leave at their ends, one stream more.
use Rattle.std.proofs.Common.{◌≡◌, ℕ, ◌+◌, ◌<◌, List, [], ◌∷◌, ◌++◌, length, get_or, length-append, arith, inl, inr}
use Rattle.std.proofs.lemmas.Bool.{cases_lt}
use Rattle.std.proofs.Math.ListN.{get_or-append}
use Rattle.std.proofs.Math.Seq.{get_or-append_seam}
use Rattle.sm_placement.specs.Setup.{Sizes}
use Rattle.sm_reservation.specs.Rights.{Rights, no_rights}
use Rattle.sm_reservation.specs.HoldOf.{hold_of}
use Rattle.sm_plan_code.specs.Plan.{PlanModel}
use Rattle.sm_verifier.specs.Stream.{stream_at, final_hold, IsGood}
use Rattle.sm_verifier.specs.Peak.{IsPeak}
use Rattle.sm_verifier.specs.Plan.{AreGood}
use Rattle.sm_verifier.specs.Checked.{AreFinals, ArePeaks}

-- what holds at each place of a list, and at one more
one_more : {X : Type 0} (P : ℕ → X → Type 0) (xs ys : List X) (x d : X) (n : ℕ) → ys ≡ xs ++ x ∷ [] → length xs ≡ n → ((i : ℕ) → i < n → P i (get_or xs i d)) → P n x → (i : ℕ) → i < n + 1 → P i (get_or ys i d)
one_more P xs ys x d n e count each last i l = elim (cases_lt i n) [
  | inl before ↦ let less : i < length xs = omega arith in rw (e, get_or-append xs (x ∷ []) d i less) (each i before)
  | inr after ↦ let here : i ≡ length xs = omega arith in let number : length xs ≡ n = count in rw (here, e, get_or-append_seam xs x [] d, number) last
]

-- where the first streams are good and the next one is, one more are
pub good_next : (c : Sizes) (plan : PlanModel) (n : ℕ) → AreGood c plan n → IsGood (stream_at c plan n) → AreGood c plan (n + 1)
good_next c plan n lower here i l = elim (cases_lt i n) [
  | inl before ↦ lower i before
  | inr after ↦ let same : i ≡ n = omega arith in rw same here
]

-- to the holds that the first streams end with comes that of the next one
pub finals_next : (c : Sizes) (plan : PlanModel) (n : ℕ) (xs ys : List Rights) (x : Rights) → AreFinals c plan n xs → hold_of x ≡ final_hold (stream_at c plan n) → ys ≡ xs ++ x ∷ [] → AreFinals c plan (n + 1) ys
finals_next c plan n xs ys x finals here e = record {
  count = let k = finals.count in rw e (omega (arith, length-append xs (x ∷ [])));
  each = one_more (λ i r. hold_of r ≡ final_hold (stream_at c plan i)) xs ys x no_rights n e finals.count finals.each here;
}

-- to the peaks of the first streams comes that of the next one
pub peaks_next : (c : Sizes) (plan : PlanModel) (n : ℕ) (xs ys : List ℕ) (x : ℕ) → ArePeaks c plan n xs → IsPeak (stream_at c plan n) x → ys ≡ xs ++ x ∷ [] → ArePeaks c plan (n + 1) ys
peaks_next c plan n xs ys x peaks here e = record {
  count = let k = peaks.count in rw e (omega (arith, length-append xs (x ∷ [])));
  each = one_more (λ i r. IsPeak (stream_at c plan i) r) xs ys x 0 n e peaks.count peaks.each here;
}
