-- A stream followed as far as a position, one instruction further, and at its end.
use Rattle.std.proofs.Common.{◌≡◌, ◌≢◌, ℕ, ◌+◌, ◌*◌, ◌<◌, ◌≤◌, suc, add-one, true, ◌&&◌, nat_le, Option, Some, None, Result, Ok, Err, length, get_or, take, refl, ◌∙◌, arith, inl, inr, leb-true, leb-false}
use Rattle.std.specs.Prelude.{IfSome, IfErr, IsOk, slice_get}
use Rattle.std.specs.List.{count_by}
use Rattle.std.proofs.lemmas.Bool.{cases_Bool, cases_eq, cases_lt, and_parts, and_cases}
use Rattle.std.proofs.lemmas.List.Sums.{count_by_more_yes, count_by_more_no, sum_by-take-le}
use Rattle.std.proofs.lemmas.Option.{slice_get_within, get_or_from_slice_get, slice_get_past}
use Rattle.std.proofs.Math.Seq.{take-length}
use Rattle.sm_placement.specs.Sums.{bit}
use Rattle.sm_reservation.specs.Hold.{Hold}
use Rattle.sm_reservation.specs.HoldOf.{hold_of}
use Rattle.sm_plan_code.specs.declared.instruction.Instr.{Instr}
use Rattle.sm_plan_code.specs.declared.instruction.Why.{Why}
use Rattle.sm_plan_code.specs.declared.instruction.Why.TheVariants.{Unsettled}
use Rattle.sm_plan_code.specs.Instr.{is_call}
use Rattle.sm_plan_code.specs.After.{after}
use Rattle.sm_verifier.specs.declared.steps.StepFault.{StepFault}
use Rattle.sm_verifier.specs.declared.steps.StepFault.TheVariants.{NoMemory, Refused}
use Rattle.sm_verifier.specs.Step.{parcels_of, IsAnswer, IsAtMost, Grows}
use Rattle.sm_verifier.specs.declared.following.Bad.{Bad}
use Rattle.sm_verifier.specs.declared.following.Bad.TheVariants as bad
use Rattle.sm_verifier.specs.Bad.{bad_at, IsBad}
use Rattle.sm_verifier.specs.Stream.{Course, hold_before, final_hold, calls_before, HasCrownsAtRest, IsGood, within_budget, made_at, BreaksBy, BreaksAt, IsFirstBreak}
use Rattle.sm_plan_code.specs.declared.limits.TheConstants.{MOST_AMOUNT}

-- the stream has been followed to a position: the calls so far, the hold there, and no break before it
pub record IsFollowed (s : Course) (p n : ℕ) (h : Hold) : Type 0 where
  pub calls : n ≡ calls_before s p
  pub within : n ≤ s.budget
  pub hold : h ≡ hold_before s p
  pub amounts : IsAtMost ((p + 1) * MOST_AMOUNT) h
  pub made : (q : ℕ) → q < p → IfSome (slice_get s.code q) (λ i. IsOk (made_at s q i))

pub start : (s : Course) → IsAtMost MOST_AMOUNT (hold_of s.holds) → IsFollowed s 0 0 (hold_of s.holds)
start s amounts = record {
  calls = refl;
  within = omega arith;
  hold = refl;
  amounts = record { room = λ v. let a = amounts.room v in omega arith; spare = λ k. let a = amounts.spare k in omega arith };
  made = λ q l. absurd (omega arith);
}

-- what the table of rights says of an instruction, and one more call
abbrev pub said_of : Course → Instr → Hold → Result Hold Why
said_of s i h = after s.sizes (parcels_of s.signals) i h

here_is : (s : Course) (p n : ℕ) (h : Hold) (i : Instr) → IsFollowed s p n h → made_at s p i ≡ within_budget s.budget n i (said_of s i h)
here_is s p n h i f = rw (f.calls, f.hold) refl

-- with the instruction at a position there is one call more, if it is a call
pub one_more : (s : Course) (p : ℕ) (i : Instr) → slice_get s.code p ≡ Some i → calls_before s (p + 1) ≡ calls_before s p + bit (is_call i)
one_more s p i e =
    let less : p < length s.code = slice_get_within s.code p i e in
    let same : get_or s.code p i ≡ i = get_or_from_slice_get s.code p i i e in
    elim (cases_Bool (is_call i)) [
      | inl call ↦ rw call (count_by_more_yes is_call s.code p i less (rw same call))
      | inr other ↦ rw other (count_by_more_no is_call s.code p i less (rw same other) ∙ omega arith)
    ]

-- an instruction that is made is one of the table, within the budget
pub made_of : (budget n : ℕ) (i : Instr) (said : Result Hold Why) (h : Hold) → n ≤ budget → within_budget budget n i said ≡ Ok h → (said ≡ Ok h) × (n + bit (is_call i) ≤ budget)
made_of budget n i said h l e = elim (cases_Bool (is_call i && nat_le budget n)) [
  | inl over ↦ absurd (let wrong = rw over at e in cc)
  | inr under ↦ (
    rw under at e,
    elim (and_cases (is_call i) (nat_le budget n) under) [
      | inl other ↦ rw other (omega arith)
      | inr less ↦ let m : n < budget = leb-false budget n less in elim (cases_Bool (is_call i)) [ inl call ↦ rw call (omega arith) | inr other ↦ rw other (omega arith) ]
    ],
  )
]

-- the hold that it leaves is the one before the next instruction
pub next_hold : (s : Course) (p : ℕ) (i : Instr) (h : Hold) → slice_get s.code p ≡ Some i → said_of s i (hold_before s p) ≡ Ok h → h ≡ hold_before s (suc p)
next_hold s p i h e said = rw e (rw said refl)

-- where the instruction at a position may be made, the stream is followed to the next position
pub next : (s : Course) (p n : ℕ) (h h' : Hold) (i : Instr) → IsFollowed s p n h → slice_get s.code p ≡ Some i → within_budget s.budget n i (said_of s i h) ≡ Ok h' → Grows MOST_AMOUNT h h' → IsFollowed s (p + 1) (n + bit (is_call i)) h'
next s p n h h' i f e made grows =
    let parts = made_of s.budget n i (said_of s i h) h' f.within made in
    record {
      calls = let more = one_more s p i e in let so = f.calls in omega arith;
      within = parts.1;
      hold = rw add-one (next_hold s p i h' e (rw (← f.hold) parts.0));
      amounts = record {
        room = λ v. let a = f.amounts.room v in let b = grows.room v in omega arith;
        spare = λ k. let a = f.amounts.spare k in let b = grows.spare k in omega arith;
      };
      made = λ q l. elim (cases_eq q p) [
        | inl same ↦ rw (same, e) (let is = here_is s p n h i f ∙ made in rw is refl)
        | inr other ↦ f.made q (omega arith)
      ];
    }

-- ---- a stream that breaks off

-- a stream does not break off at an instruction that may be made
pub no_break : (s : Course) (q : ℕ) (w : Why) (o : Option Instr) → q < length s.code → IfSome o (λ i. IsOk (made_at s q i)) → ¬ BreaksBy s q o w
no_break s q w (Some i) l ok broken = let wrong = rw broken at ok in cc
no_break s q w None l ok broken = let wrong : q ≡ length s.code = broken.0 in absurd (omega arith)

over_budget : (s : Course) (p : ℕ) (i : Instr) → slice_get s.code p ≡ Some i → is_call i ≡ true → s.budget ≤ calls_before s p → ¬ (count_by is_call s.code ≤ s.budget)
over_budget s p i e call over within =
    let more : calls_before s (p + 1) ≡ calls_before s p + 1 = rw call at (one_more s p i e) in
    let most : calls_before s (p + 1) ≤ count_by is_call s.code = sum_by-take-le _ s.code (p + 1) in
    absurd (omega arith)

-- a stream that breaks off is not good
pub not_good : (s : Course) (p : ℕ) (why : Why) → BreaksAt s p why → ¬ IsGood s
not_good s p why broken good = go (slice_get s.code p) refl broken (good.made p)
  where
    go : (o : Option Instr) → slice_get s.code p ≡ o → BreaksBy s p o why → IfSome o (λ i. IsOk (said_of s i (hold_before s p))) → ⊥
    go (Some i) e broken ok = elim (cases_Bool (is_call i && nat_le s.budget (calls_before s p))) [
      | inl over ↦ let parts = and_parts (is_call i) (nat_le s.budget (calls_before s p)) over in over_budget s p i e parts.0 (leb-true s.budget (calls_before s p) parts.1) good.within
      | inr under ↦ let said : said_of s i (hold_before s p) ≡ Err why = rw under at broken in let wrong = rw said at ok in cc
    ]
    go None e broken ok = broken.2 good.settled

-- a stream of which an answer says where it breaks off first is not good
pub not_good_where_bad : {T : Type 0} (s : Course) (answer : Result T Bad) → IfErr answer (IsBad s) → IfErr answer (λ b. b ≢ bad.NoMemory → ¬ IsGood s)
not_good_where_bad s (Ok x) is = tt
not_good_where_bad s (Err bad.NoMemory) is = λ some. absurd (some refl)
not_good_where_bad s (Err (bad.At p why)) is = λ some. not_good s p why is.here

-- a stream breaks off where it cannot go on, and all before was made
pub first_break : (s : Course) (p : ℕ) (why : Why) → p ≤ length s.code → ((q : ℕ) → q < p → IfSome (slice_get s.code q) (λ i. IsOk (made_at s q i))) → BreaksAt s p why → IsFirstBreak s p why
first_break s p why within made here = record {
  here = here;
  before = λ q w l. no_break s q w (slice_get s.code q) (omega arith) (made q l);
}

pub breaks : (s : Course) (p n : ℕ) (h : Hold) (i : Instr) (why : Why) → IsFollowed s p n h → slice_get s.code p ≡ Some i → within_budget s.budget n i (said_of s i h) ≡ Err why → IsFirstBreak s p why
breaks s p n h i why f e refused =
    let less : p < length s.code = slice_get_within s.code p i e in
    first_break s p why (omega arith) f.made (rw e (here_is s p n h i f ∙ refused))

-- where the instruction at the position was not made, for want of memory or because it may not be
pub breaks_by : (s : Course) (p n at : ℕ) (h h' : Hold) (i : Instr) (fault : StepFault) → at ≡ p → IsFollowed s p n h → slice_get s.code p ≡ Some i → IsAnswer {U = Unit {0}} (Err fault) h' (within_budget s.budget n i (said_of s i h)) → IsBad s (bad_at at fault)
breaks_by s p n at h h' i NoMemory here f e answer = tt
breaks_by s p n at h h' i (Refused why) here f e answer = rw here (breaks s p n h i why f e answer)

-- ---- a stream at its end

-- a stream that was followed to its end breaks off there, where a crown is not at rest
pub unsettled : (s : Course) (p n : ℕ) (h : Hold) → p ≡ length s.code → IsFollowed s p n h → ¬ HasCrownsAtRest h → IsFirstBreak s p Unsettled
unsettled s p n h end f open_handover =
    let past : slice_get s.code p ≡ None = slice_get_past s.code p (omega arith) in
    let settled : ¬ HasCrownsAtRest (final_hold s) = λ rest. open_handover (rw (f.hold, end) rest) in
    first_break s p Unsettled (omega arith) f.made (rw past (end, refl, settled))

-- what may be made within the budget passes the tests of its line of the table
pub made_ok : (s : Course) (p : ℕ) (o : Option Instr) → IfSome o (λ i. IsOk (made_at s p i)) → IfSome o (λ i. IsOk (said_of s i (hold_before s p)))
made_ok s p None ok = tt
made_ok s p (Some i) ok = elim (cases_Bool (is_call i && nat_le s.budget (calls_before s p))) [
  | inl over ↦ absurd (let wrong = rw over at ok in cc)
  | inr under ↦ rw under at ok
]

-- a stream that was followed to its end is good, where all crowns are at rest there
pub good : (s : Course) (p n : ℕ) (h : Hold) → p ≡ length s.code → IsFollowed s p n h → HasCrownsAtRest h → IsGood s
good s p n h end f settled = record {
  made = λ q. elim (cases_lt q p) [
    | inl l ↦ made_ok s q (slice_get s.code q) (f.made q l)
    | inr l ↦ rw (slice_get_past s.code q (omega arith)) tt
  ];
  settled = rw (← end, ← f.hold) settled;
  within = let all : take p s.code ≡ s.code = rw end (take-length s.code) in let calls : n ≡ count_by is_call s.code = rw all at f.calls in let l = f.within in omega arith;
}
