-- A plan's fault is one, and what holds a plan up is one: case by case.
use Rattle.std.proofs.Common.{◌≡◌, ℕ, length, refl, ap, subst, arith, inl, inr}
use Rattle.std.specs.Prelude.{◌≢◌}
use Rattle.std.proofs.lemmas.Bool.{cases_order}
use Rattle.sm_placement.specs.Setup.{Sizes}
use Rattle.sm_placement.specs.Place.{Place}
use Rattle.sm_reservation.specs.Hold.{Hold}
use Rattle.sm_plan_code.specs.declared.instruction.Why.{Why}
use Rattle.sm_plan_code.specs.Plan.{PlanModel}
use Rattle.sm_verifier.specs.declared.checking.Fault.{Fault}
use Rattle.sm_verifier.specs.declared.checking.Fault.TheVariants.{NoMemory, Budget, SignalNotOnce, Stream, Stuck}
use Rattle.sm_verifier.specs.declared.admission.Holding.{Holding}
use Rattle.sm_verifier.specs.declared.admission.Holding.TheVariants.{Untrue, Taken, ShortRoom, ShortSpare, ServerDown}
use Rattle.sm_verifier.specs.Stream.{stream_at, IsFirstBreak}
use Rattle.sm_verifier.specs.Plan.{KeepsBudget, AreUsedOnce, AreGood, IsSound, IsOverBudget, IsFirstMisused, IsFirstBad, IsFault}
use Rattle.sm_verifier.specs.Admission.{IsTrueAt, IsFreeAt, HasDeclaredRoom, HasDeclaredSpare, IsUpWhereMentioned, IsAdmitted, IsHolding}
use Rattle.sm_verifier.specs.Verdict.{IsSameFault}
use Rattle.sm_verifier.proofs.Streams.{not_good}
use Rattle.sm_verifier.proofs.Verdicts.{one_lowest, one_first, one_break, one_stuck}

-- ---- faults of one kind

-- where the budgets add up to too much, the plan does not keep its budget
over_not_kept : (plan : PlanModel) (total most : ℕ) → IsOverBudget plan total most → ¬ KeepsBudget plan
over_not_kept plan total most over kept =
    let total_is = over.total_is in
    let most_is = over.most_is in
    let more = over.over in
    absurd (omega arith)

-- where a signal is misused, not all are used once
misused_not_once : (plan : PlanModel) (k posted awaited : ℕ) → IsFirstMisused plan k posted awaited → ¬ AreUsedOnce plan (length plan.signals)
misused_not_once plan k posted awaited first once = first.here (once k first.signal)

-- where a stream breaks off, not all are good
bad_not_good : (c : Sizes) (plan : PlanModel) (i at : ℕ) (why : Why) → IsFirstBad c plan i at why → ¬ AreGood c plan (length plan.streams)
bad_not_good c plan i at why first good = not_good (stream_at c plan i) at why first.here.here (good i first.stream)

-- the lowest misused signal is one, with its counts
one_misused : (plan : PlanModel) (j p a k q b : ℕ) → IsFirstMisused plan j p a → IsFirstMisused plan k q b → SignalNotOnce j p a ≡ SignalNotOnce k q b
one_misused plan j p a k q b f g = elim (cases_order j k) [
  | inl same ↦ let fp = f.posted_is in let fa = f.awaited_is in let gp = g.posted_is in let ga = g.awaited_is in cc
  | inr apart ↦ elim apart [
    | inl less ↦ absurd (f.here (g.lower j less))
    | inr more ↦ absurd (g.here (f.lower k more))
  ]
]

-- the lowest stream that is not good is one, with its break
one_bad : (c : Sizes) (plan : PlanModel) (i p : ℕ) (v : Why) (j q : ℕ) (w : Why) → IsFirstBad c plan i p v → IsFirstBad c plan j q w → Stream i p v ≡ Stream j q w
one_bad c plan i p v j q w f g = elim (cases_order i j) [
  | inl same ↦ let both = one_break (stream_at c plan j) p q v w (subst (λ (n : ℕ). IsFirstBreak (stream_at c plan n) p v) same f.here) g.here in let at = both.0 in let why = both.1 in cc
  | inr apart ↦ elim apart [
    | inl less ↦ absurd (not_good (stream_at c plan i) p v f.here.here (g.lower i less))
    | inr more ↦ absurd (not_good (stream_at c plan j) q w g.here.here (f.lower j more))
  ]
]

-- ---- faults

-- a sound plan has no fault but want of memory
pub sound_without_fault : (c : Sizes) (plan : PlanModel) (f : Fault) → IsSound c plan → IsFault c plan f → f ≡ NoMemory
sound_without_fault c plan NoMemory sound is = refl
sound_without_fault c plan (Budget total most) sound is = absurd (over_not_kept plan total most is sound.budget)
sound_without_fault c plan (SignalNotOnce k p a) sound is = absurd (misused_not_once plan k p a is.1 sound.signals)
sound_without_fault c plan (Stream i at why) sound is = absurd (bad_not_good c plan i at why is.2 sound.streams)
sound_without_fault c plan (Stuck positions) sound is = absurd (is.3.stuck sound.order)

-- two faults of a plan are the same
pub same_fault : (c : Sizes) (plan : PlanModel) (f g : Fault) → IsFault c plan f → IsFault c plan g → f ≢ NoMemory → g ≢ NoMemory → IsSameFault f g
same_fault c plan NoMemory g a b some other = absurd (some refl)
same_fault c plan (Budget t m) NoMemory a b some other = absurd (other refl)
same_fault c plan (Budget t m) (Budget u n) a b some other = let at = a.total_is in let am = a.most_is in let bt = b.total_is in let bm = b.most_is in cc
same_fault c plan (Budget t m) (SignalNotOnce k p w) a b some other = absurd (over_not_kept plan t m a b.0)
same_fault c plan (Budget t m) (Stream i at why) a b some other = absurd (over_not_kept plan t m a b.0)
same_fault c plan (Budget t m) (Stuck ps) a b some other = absurd (over_not_kept plan t m a b.0)
same_fault c plan (SignalNotOnce k p w) NoMemory a b some other = absurd (other refl)
same_fault c plan (SignalNotOnce k p w) (Budget u n) a b some other = absurd (over_not_kept plan u n b a.0)
same_fault c plan (SignalNotOnce k p w) (SignalNotOnce j q v) a b some other = one_misused plan k p w j q v a.1 b.1
same_fault c plan (SignalNotOnce k p w) (Stream i at why) a b some other = absurd (misused_not_once plan k p w a.1 b.1)
same_fault c plan (SignalNotOnce k p w) (Stuck ps) a b some other = absurd (misused_not_once plan k p w a.1 b.1)
same_fault c plan (Stream i at why) NoMemory a b some other = absurd (other refl)
same_fault c plan (Stream i at why) (Budget u n) a b some other = absurd (over_not_kept plan u n b a.0)
same_fault c plan (Stream i at why) (SignalNotOnce k p w) a b some other = absurd (misused_not_once plan k p w b.1 a.1)
same_fault c plan (Stream i at why) (Stream j q w) a b some other = one_bad c plan i at why j q w a.2 b.2
same_fault c plan (Stream i at why) (Stuck ps) a b some other = absurd (bad_not_good c plan i at why a.2 b.2)
same_fault c plan (Stuck ps) NoMemory a b some other = absurd (other refl)
same_fault c plan (Stuck ps) (Budget u n) a b some other = absurd (over_not_kept plan u n b a.0)
same_fault c plan (Stuck ps) (SignalNotOnce k p w) a b some other = absurd (misused_not_once plan k p w b.1 a.1)
same_fault c plan (Stuck ps) (Stream i at why) a b some other = absurd (bad_not_good c plan i at why b.2 a.2)
same_fault c plan (Stuck ps) (Stuck qs) a b some other = one_stuck plan ps.items qs.items a.3 b.3

-- ---- holdings

-- nothing holds up a plan that is admitted
pub admitted_without_holding : (c : Sizes) (p : Place) (pool : Hold) (plan : PlanModel) (h : Holding) → IsAdmitted c p pool plan → ¬ IsHolding c p pool plan h
admitted_without_holding c p pool plan (Untrue key) all is = is.1.lowest.broken (all.true_ones is.0 key)
admitted_without_holding c p pool plan (Taken key) all is = is.1.1.lowest.broken (all.free_ones is.1.0 key)
admitted_without_holding c p pool plan (ShortRoom v free sum) all is = is.2.broken (all.room v)
admitted_without_holding c p pool plan (ShortSpare s free sum) all is = is.3.broken (all.spare s)
admitted_without_holding c p pool plan (ServerDown v) all is = is.4.broken (all.up v)

-- two things that hold a plan up are one
pub same_holding : (c : Sizes) (p : Place) (pool : Hold) (plan : PlanModel) (h k : Holding) → IsHolding c p pool plan h → IsHolding c p pool plan k → h ≡ k
same_holding c p pool plan (Untrue j) (Untrue k) a b = ap (λ n. Untrue n) (one_first (IsTrueAt c p plan.streams) a.0 b.0 j k a.1 b.1)
same_holding c p pool plan (Untrue j) (Taken k) a b = absurd (a.1.lowest.broken (b.0 a.0 j))
same_holding c p pool plan (Untrue j) (ShortRoom w q r) a b = absurd (a.1.lowest.broken (b.0 a.0 j))
same_holding c p pool plan (Untrue j) (ShortSpare t q r) a b = absurd (a.1.lowest.broken (b.0 a.0 j))
same_holding c p pool plan (Untrue j) (ServerDown w) a b = absurd (a.1.lowest.broken (b.0 a.0 j))
same_holding c p pool plan (Taken j) (Untrue k) a b = absurd (b.1.lowest.broken (a.0 b.0 k))
same_holding c p pool plan (Taken j) (Taken k) a b = ap (λ n. Taken n) (one_first (IsFreeAt pool plan.streams) a.1.0 b.1.0 j k a.1.1 b.1.1)
same_holding c p pool plan (Taken j) (ShortRoom w q r) a b = absurd (a.1.1.lowest.broken (b.1 a.1.0 j))
same_holding c p pool plan (Taken j) (ShortSpare t q r) a b = absurd (a.1.1.lowest.broken (b.1 a.1.0 j))
same_holding c p pool plan (Taken j) (ServerDown w) a b = absurd (a.1.1.lowest.broken (b.1 a.1.0 j))
same_holding c p pool plan (ShortRoom v m n) (Untrue k) a b = absurd (b.1.lowest.broken (a.0 b.0 k))
same_holding c p pool plan (ShortRoom v m n) (Taken k) a b = absurd (b.1.1.lowest.broken (a.1 b.1.0 k))
same_holding c p pool plan (ShortRoom v m n) (ShortRoom w q r) a b = let at = one_lowest (HasDeclaredRoom pool plan.streams) v w a.2 b.2 in let am = a.3 in let an = a.4 in let bq = b.3 in let br = b.4 in cc
same_holding c p pool plan (ShortRoom v m n) (ShortSpare t q r) a b = absurd (a.2.broken (b.2 v))
same_holding c p pool plan (ShortRoom v m n) (ServerDown w) a b = absurd (a.2.broken (b.2 v))
same_holding c p pool plan (ShortSpare s m n) (Untrue k) a b = absurd (b.1.lowest.broken (a.0 b.0 k))
same_holding c p pool plan (ShortSpare s m n) (Taken k) a b = absurd (b.1.1.lowest.broken (a.1 b.1.0 k))
same_holding c p pool plan (ShortSpare s m n) (ShortRoom w q r) a b = absurd (b.2.broken (a.2 w))
same_holding c p pool plan (ShortSpare s m n) (ShortSpare t q r) a b = let at = one_lowest (HasDeclaredSpare pool plan.streams) s t a.3 b.3 in let am = a.4 in let an = a.5 in let bq = b.4 in let br = b.5 in cc
same_holding c p pool plan (ShortSpare s m n) (ServerDown w) a b = absurd (a.3.broken (b.3 s))
same_holding c p pool plan (ServerDown v) (Untrue k) a b = absurd (b.1.lowest.broken (a.0 b.0 k))
same_holding c p pool plan (ServerDown v) (Taken k) a b = absurd (b.1.1.lowest.broken (a.1 b.1.0 k))
same_holding c p pool plan (ServerDown v) (ShortRoom w q r) a b = absurd (b.2.broken (a.2 w))
same_holding c p pool plan (ServerDown v) (ShortSpare t q r) a b = absurd (b.3.broken (a.3 t))
same_holding c p pool plan (ServerDown v) (ServerDown w) a b = ap (λ n. ServerDown n) (one_lowest (IsUpWhereMentioned p plan.streams) v w a.4 b.4)
