-- The first number, key, stream and break that a definition asks for is one.
use Rattle.std.proofs.Common.{◌≡◌, ℕ, ◌<◌, ◌≤◌, ◌∙◌, true, Option, Some, None, List, length, refl, sym, ap, arith, inl, inr}
use Rattle.std.specs.Prelude.{◌⊎◌, nat_lt, min, slice_get}
use Rattle.std.proofs.lemmas.Bool.{cases_order}
use Rattle.std.proofs.lemmas.Bool.Decides.{nat_tests}
use Rattle.std.proofs.lemmas.List.{ext_get_or}
use Rattle.std.proofs.lemmas.Option.{get_or_from_slice_get}
use Rattle.sm_reservation.specs.declared.right.Key.{Key}
use Rattle.sm_reservation.specs.declared.right.Key.TheVariants.{CellRight, Crown, Room, Spare}
use Rattle.sm_reservation.specs.Key.{key_before}
use Rattle.sm_reservation.specs.Rows.{before}
use Rattle.sm_plan_code.specs.declared.instruction.Instr.{Instr}
use Rattle.sm_plan_code.specs.declared.instruction.Why.{Why}
use Rattle.sm_plan_code.specs.Plan.{PlanModel}
use Rattle.sm_verifier.specs.Stream.{Course, BreaksBy, IsFirstBreak}
use Rattle.sm_verifier.specs.Order.{code_at, IsFarthest, IsStuckAt}
use Rattle.sm_verifier.specs.Admission.{IsLowest, IsLowestKey, IsFirst}

-- ---- numbers and keys

-- there is one lowest number
pub one_lowest : (Kept : ℕ → Type 0) (m n : ℕ) → IsLowest Kept m → IsLowest Kept n → m ≡ n
one_lowest Kept m n a b = elim (cases_order m n) [
  | inl same ↦ same
  | inr apart ↦ elim apart [
    | inl less ↦ absurd (a.broken (b.below m less))
    | inr more ↦ absurd (b.broken (a.below n more))
  ]
]

-- two numbers are equal, or one comes before the other
number_order : (m n : ℕ) → (m ≡ n) ⊎ ((nat_lt m n ≡ true) ⊎ (nat_lt n m ≡ true))
number_order m n = elim (cases_order m n) [
  | inl same ↦ inl same
  | inr apart ↦ elim apart [
    | inl less ↦ inr (inl (grind (arith, nat_tests)))
    | inr more ↦ inr (inr (grind (arith, nat_tests)))
  ]
]

-- two places are equal, or one comes before the other
place_order : (s v t w : ℕ) → ((s ≡ t) × (v ≡ w)) ⊎ ((before (s, v) (t, w) ≡ true) ⊎ (before (t, w) (s, v) ≡ true))
place_order s v t w = elim (cases_order s t) [
  | inl same ↦ elim (cases_order v w) [
    | inl too ↦ inl (same, too)
    | inr apart ↦ elim apart [
      | inl less ↦ inr (inl (grind (arith, nat_tests)))
      | inr more ↦ inr (inr (grind (arith, nat_tests)))
    ]
  ]
  | inr apart ↦ elim apart [
    | inl less ↦ inr (inl (grind (arith, nat_tests)))
    | inr more ↦ inr (inr (grind (arith, nat_tests)))
  ]
]

-- two keys are equal, or one comes before the other
key_order : (j k : Key) → (j ≡ k) ⊎ ((key_before j k ≡ true) ⊎ (key_before k j ≡ true))
key_order (CellRight s v) (CellRight t w) = elim (place_order s v t w) [ inl same ↦ inl (let m = same.0 in let n = same.1 in cc) | inr apart ↦ inr apart ]
key_order (CellRight s v) (Crown t) = inr (inl refl)
key_order (CellRight s v) (Room w) = inr (inl refl)
key_order (CellRight s v) (Spare t) = inr (inl refl)
key_order (Crown s) (CellRight t w) = inr (inr refl)
key_order (Crown s) (Crown t) = elim (number_order s t) [ inl same ↦ inl (ap (λ n. Crown n) same) | inr apart ↦ inr apart ]
key_order (Crown s) (Room w) = inr (inl refl)
key_order (Crown s) (Spare t) = inr (inl refl)
key_order (Room v) (CellRight t w) = inr (inr refl)
key_order (Room v) (Crown t) = inr (inr refl)
key_order (Room v) (Room w) = elim (number_order v w) [ inl same ↦ inl (ap (λ n. Room n) same) | inr apart ↦ inr apart ]
key_order (Room v) (Spare t) = inr (inl refl)
key_order (Spare s) (CellRight t w) = inr (inr refl)
key_order (Spare s) (Crown t) = inr (inr refl)
key_order (Spare s) (Room w) = inr (inr refl)
key_order (Spare s) (Spare t) = elim (number_order s t) [ inl same ↦ inl (ap (λ n. Spare n) same) | inr apart ↦ inr apart ]

-- there is one lowest key
one_lowest_key : (Kept : Key → Type 0) (j k : Key) → IsLowestKey Kept j → IsLowestKey Kept k → j ≡ k
one_lowest_key Kept j k a b = elim (key_order j k) [
  | inl same ↦ same
  | inr apart ↦ elim apart [
    | inl less ↦ absurd (a.broken (b.below j less))
    | inr more ↦ absurd (b.broken (a.below k more))
  ]
]

-- the first stream's lowest key is one
pub one_first : (Kept : ℕ → Key → Type 0) (m n : ℕ) (j k : Key) → IsFirst Kept m j → IsFirst Kept n k → j ≡ k
one_first Kept m n j k a b = elim (cases_order m n) [
  | inl same ↦ one_lowest_key (Kept n) j k (rw (← same) a.lowest) b.lowest
  | inr apart ↦ elim apart [
    | inl less ↦ absurd (a.lowest.broken (b.before m less j))
    | inr more ↦ absurd (b.lowest.broken (a.before n more k))
  ]
]

-- ---- streams

-- what stands at a position breaks the stream off for one why
one_why : (s : Course) (p : ℕ) (o : Option Instr) (v w : Why) → BreaksBy s p o v → BreaksBy s p o w → v ≡ w
one_why s p (Some i) v w a b = cc
one_why s p None v w a b = a.1 ∙ sym b.1

-- a stream breaks off first at one position, for one why
pub one_break : (s : Course) (p q : ℕ) (v w : Why) → IsFirstBreak s p v → IsFirstBreak s q w → (p ≡ q) × (v ≡ w)
one_break s p q v w a b = elim (cases_order p q) [
  | inl same ↦ (same, one_why s q (slice_get s.code q) v w (rw (← same) a.here) b.here)
  | inr apart ↦ elim apart [
    | inl less ↦ absurd (b.before p v less a.here)
    | inr more ↦ absurd (a.before q w more b.here)
  ]
]

-- ---- positions

-- no run takes a stream further than the farthest, so the farthest are one
one_farthest : (plan : PlanModel) (to other : ℕ → ℕ) (i : ℕ) → IsFarthest plan to → IsFarthest plan other → i < length plan.streams → to i ≡ other i
one_farthest plan to other i a b l =
    let up : other i ≤ to i = a.most b.reached.0 other b.reached.1 i l in
    let down : to i ≤ other i = b.most a.reached.0 to a.reached.1 i l in
    omega arith

-- the positions at which a plan is stuck are one list
pub one_stuck : (plan : PlanModel) (ps qs : List ℕ) → IsStuckAt plan ps → IsStuckAt plan qs → ps ≡ qs
one_stuck plan ps qs a b = ext_get_or 0 ps qs (a.count ∙ sym b.count) (λ i l.
    let less : i < length plan.streams = let e = a.count in omega arith in
    let far = one_farthest plan a.farthest.0 b.farthest.0 i a.farthest.1 b.farthest.1 less in
    get_or_from_slice_get ps i _ 0 (a.farthest.2 i less)
    ∙ ap (λ (n : ℕ). min n (length (code_at plan i))) far
    ∙ sym (get_or_from_slice_get qs i _ 0 (b.farthest.2 i less)))
