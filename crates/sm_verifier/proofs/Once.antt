-- An instruction that is counted once in the codes of a plan stands at one step, and there the search finds it.
use Rattle.std.proofs.Common.{◌≡◌, ◌≢◌, ℕ, zero, suc, ◌+◌, ◌<◌, Bool, true, false, cond, Some, List, [], ◌∷◌, length, get_or, refl, sym, ap, ◌∙◌, inl, inr, arith}
use Rattle.std.specs.Prelude.{slice_get, count_by, sum_by}
use Rattle.std.specs.List.{list_any, position_or_len}
use Rattle.std.proofs.lemmas.Bool.{cases_Bool, cases_eq, cases_lt, eqb-true, eq-eqb, both_ways}
use Rattle.std.proofs.lemmas.Option.{slice_get_within, slice_get-get_or, get_or_from_slice_get}
use Rattle.std.proofs.lemmas.List.{get_or_past}
use Rattle.std.proofs.lemmas.List.Sums.{sum_by-cons, position_or_len_is}
use Rattle.std.proofs.lemmas.List.Recursion.{is_sum_by}
use Rattle.sm_placement.specs.Sums.{bit}
use Rattle.sm_reservation.proofs.Truths.{bit_true}
use Rattle.sm_plan_code.specs.declared.instruction.Instr.{Instr}
use Rattle.sm_plan_code.specs.declared.instruction.Instr.TheVariants.{PrepareAdd, PrepareDrop, Add, Drop, Change, Publish, Unlist, Signal, Wait}
use Rattle.sm_plan_code.specs.Plan.{StreamModel, PlanModel, KnowsSignal, KnowsSignals}
use Rattle.sm_verifier.specs.Stream.{no_stream}
use Rattle.sm_verifier.specs.Order.{code_at, PlanStep}
use Rattle.sm_verifier.specs.Plan.{is_post, is_wait, IsUsedOnce}
use Rattle.sm_verifier.specs.Signals.{first_step, post_of, wait_of, StandsOnlyAt, StandsOnce, IsOfPlan}

-- ---- a sum of 1

-- one part of a sum is 1, and all others are 0
pub record IsOnePart {T : Type 0} (f : T → ℕ) (xs : List T) (at : ℕ) : Type 0 where
  pub within : at < length xs
  pub one : (d : T) → f (get_or xs at d) ≡ 1
  pub others : (j : ℕ) (d : T) → j < length xs → j ≢ at → f (get_or xs j d) ≡ 0

no_part : {T : Type 0} (f : T → ℕ) (xs : List T) → sum_by f xs ≡ 0 → (j : ℕ) (d : T) → j < length xs → f (get_or xs j d) ≡ 0
no_part f [] e j d l = absurd (omega arith)
no_part f (x ∷ xs) e zero d l = let a = sum_by-cons f x xs in omega arith
no_part f (x ∷ xs) e (suc j) d l = let a = sum_by-cons f x xs in no_part f xs (omega arith) j d (omega arith)

one_part : {T : Type 0} (f : T → ℕ) (xs : List T) → sum_by f xs ≡ 1 → (at : ℕ) × IsOnePart f xs at
one_part f [] e = absurd (omega arith)
one_part {T} f (x ∷ xs) e =
    let a : sum_by f (x ∷ xs) ≡ f x + sum_by f xs = sum_by-cons f x xs in
    elim (cases_eq (f x) 0) [
      | inl none ↦
          let rest = one_part f xs (omega arith) in
          let within = rest.1.within in
          (suc rest.0, record { within = omega arith; one = rest.1.one; others = later rest.0 none rest.1 })
      | inr some ↦ (0, record { within = omega arith; one = λ d. omega arith; others = after (omega arith) })
    ]
  where
    later : (at : ℕ) → f x ≡ 0 → IsOnePart f xs at → (j : ℕ) (d : T) → j < length (x ∷ xs) → j ≢ suc at → f (get_or (x ∷ xs) j d) ≡ 0
    later at none rest zero d l apart = none
    later at none rest (suc j) d l apart = rest.others j d (omega arith) (λ same. apart (ap suc same))

    after : sum_by f xs ≡ 0 → (j : ℕ) (d : T) → j < length (x ∷ xs) → j ≢ 0 → f (get_or (x ∷ xs) j d) ≡ 0
    after none zero d l apart = absurd (apart refl)
    after none (suc j) d l apart = no_part f xs none j d (omega arith)

-- ---- an instruction in a code

-- a count is the sum of what the test adds for each element
count_is_sum : {T : Type 0} (test : T → Bool) (xs : List T) → count_by test xs ≡ sum_by (λ x. bit (test x)) xs
count_is_sum test = is_sum_by (count_by test) (λ x. bit (test x)) refl (λ x xs. sum_by-cons (λ y. cond (test y) 1 0) x xs ∙ ap (λ n. n + count_by test xs) (as_bit (test x)))
  where
    as_bit : (b : Bool) → cond b 1 0 ≡ bit b
    as_bit true = refl
    as_bit false = refl

bit_none : (b : Bool) → bit b ≡ 0 → b ≡ false
bit_none true e = absurd (omega arith)
bit_none false e = refl

-- what is counted once passes at the first place that passes
first_passes : {T : Type 0} (test : T → Bool) (xs : List T) (at : ℕ) (d : T) → IsOnePart (λ x. bit (test x)) xs at → position_or_len test xs ≡ at
first_passes test xs at d one =
    let within = one.within in
    position_or_len_is test xs at d (omega arith) (λ k l. bit_none (test (get_or xs k d)) (one.others k d (omega arith) (λ e. absurd (omega arith)))) (λ l. bit_true (test (get_or xs at d)) (omega (arith, one.one d)))

-- one passes exactly where something is counted
any_counted : {T : Type 0} (test : T → Bool) (xs : List T) → sum_by (λ x. bit (test x)) xs ≡ 0 → list_any test xs ≡ false
any_counted test [] e = refl
any_counted test (x ∷ xs) e = elim (cases_Bool (test x)) [
  | inl here ↦ absurd (let a = sum_by-cons (λ x. bit (test x)) x xs in let one : bit (test x) ≡ 1 = rw here refl in omega arith)
  | inr other ↦ rw other (any_counted test xs (let a = sum_by-cons (λ x. bit (test x)) x xs in let none : bit (test x) ≡ 0 = rw other refl in omega arith))
]

counted_any : {T : Type 0} (test : T → Bool) (xs : List T) → sum_by (λ x. bit (test x)) xs ≡ 1 → list_any test xs ≡ true
counted_any test [] e = absurd (omega arith)
counted_any test (x ∷ xs) e = elim (cases_Bool (test x)) [
  | inl here ↦ rw here refl
  | inr other ↦ rw other (counted_any test xs (let a = sum_by-cons (λ x. bit (test x)) x xs in let none : bit (test x) ≡ 0 = rw other refl in omega arith))
]

-- an instruction that is counted once in the codes of all streams
module _ (test : Instr → Bool) (streams : List StreamModel) (once : sum_by (λ stream. count_by test stream.code) streams ≡ 1) where
  abbrev passing_in : StreamModel → ℕ
  passing_in stream = count_by test stream.code

  abbrev code : ℕ → List Instr
  code i = (get_or streams i no_stream).code

  stream_one : (at : ℕ) × IsOnePart passing_in streams at
  stream_one = one_part passing_in streams once

  abbrev stream : ℕ
  stream = stream_one.0

  as_sum : (i n : ℕ) → passing_in (get_or streams i no_stream) ≡ n → sum_by (λ x. bit (test x)) (code i) ≡ n
  as_sum i n e = sym (count_is_sum test (code i)) ∙ e

  step_one : (at : ℕ) × IsOnePart (λ x. bit (test x)) (code stream) at
  step_one = one_part (λ x. bit (test x)) (code stream) (as_sum stream 1 (stream_one.1.one no_stream))

  stream_first : position_or_len (λ stream. list_any test stream.code) streams ≡ stream
  stream_first =
      let within = stream_one.1.within in
      position_or_len_is (λ stream. list_any test stream.code) streams stream no_stream (omega arith)
      (λ k l. any_counted test (code k) (as_sum k 0 (stream_one.1.others k no_stream (omega arith) (λ e. absurd (omega arith)))))
      (λ l. counted_any test (code stream) (as_sum stream 1 (stream_one.1.one no_stream)))

  abbrev found : PlanStep
  found = first_step test streams

  found_stream : found.0 ≡ stream
  found_stream = stream_first

  found_place : (instr : Instr) → found.1 ≡ step_one.0
  found_place instr = ap (λ i. position_or_len test (code i)) stream_first ∙ first_passes test (code stream) step_one.0 instr step_one.1

  no_instr : (i p : ℕ) (instr : Instr) → i < length streams → i ≢ stream → slice_get (code i) p ≡ Some instr → test instr ≡ false
  no_instr i p instr known apart e =
      let within : p < length (code i) = slice_get_within (code i) p instr e in
      let none = no_part (λ x. bit (test x)) (code i) (as_sum i 0 (stream_one.1.others i no_stream known apart)) p instr within in
      bit_none (test instr) (rw (get_or_from_slice_get (code i) p instr instr e) at none)

  no_other : (p : ℕ) (instr : Instr) → p ≢ step_one.0 → slice_get (code stream) p ≡ Some instr → test instr ≡ false
  no_other p instr apart e =
      let within : p < length (code stream) = slice_get_within (code stream) p instr e in
      bit_none (test instr) (rw (get_or_from_slice_get (code stream) p instr instr e) at (step_one.1.others p instr within apart))

  only_here : (i p : ℕ) (instr : Instr) → test instr ≡ true → slice_get (code i) p ≡ Some instr → (i ≡ stream) × (p ≡ step_one.0)
  only_here i p instr passes e = elim (cases_lt i (length streams)) [
    | inl known ↦ elim (cases_eq i stream) [
      | inl same ↦ elim (cases_eq p step_one.0) [
        | inl here ↦ (same, here)
        | inr apart ↦ absurd (both_ways (test instr) (no_other p instr apart (rw same at e)) passes)
      ]
      | inr apart ↦ absurd (both_ways (test instr) (no_instr i p instr known apart e) passes)
    ]
    | inr past ↦ absurd (let wrong = sym (ap (λ (s : StreamModel). slice_get s.code p) (get_or_past streams i no_stream past)) ∙ e in cc)
  ]

  found_here : (instr : Instr) → slice_get (code stream) step_one.0 ≡ Some (get_or (code stream) step_one.0 instr)
  found_here instr = slice_get-get_or (code stream) step_one.0 instr step_one.1.within

  found_passes : (instr : Instr) → test (get_or (code stream) step_one.0 instr) ≡ true
  found_passes instr = bit_true (test (get_or (code stream) step_one.0 instr)) (omega (arith, step_one.1.one instr))

-- ---- signals

is_post_of : (k : ℕ) (instr : Instr) → is_post k instr ≡ true → instr ≡ Signal k
is_post_of k (Signal j) e = ap Signal (eqb-true j k e)
is_post_of k (PrepareAdd s v u) e = cc
is_post_of k (PrepareDrop s u v) e = cc
is_post_of k (Add s v role) e = cc
is_post_of k (Drop s v) e = cc
is_post_of k (Change s v to) e = cc
is_post_of k (Publish s) e = cc
is_post_of k (Unlist s) e = cc
is_post_of k (Wait j) e = cc

is_wait_of : (k : ℕ) (instr : Instr) → is_wait k instr ≡ true → instr ≡ Wait k
is_wait_of k (Wait j) e = ap Wait (eqb-true j k e)
is_wait_of k (PrepareAdd s v u) e = cc
is_wait_of k (PrepareDrop s u v) e = cc
is_wait_of k (Add s v role) e = cc
is_wait_of k (Drop s v) e = cc
is_wait_of k (Change s v to) e = cc
is_wait_of k (Publish s) e = cc
is_wait_of k (Unlist s) e = cc
is_wait_of k (Signal j) e = cc

-- what is counted once stands at the first step that passes, and nowhere else
stands : (plan : PlanModel) (test : Instr → Bool) (instr : Instr) → test instr ≡ true → ((other : Instr) → test other ≡ true → other ≡ instr) → sum_by (λ stream. count_by test stream.code) plan.streams ≡ 1 → StandsOnlyAt plan instr (first_step test plan.streams)
stands plan test instr passes same once =
    let stream_is = found_stream test plan.streams once in
    let place_is = found_place test plan.streams once instr in
    record {
      stream = rw stream_is (stream_one test plan.streams once).1.within;
      here = rw (place_is, stream_is) (found_here test plan.streams once instr ∙ ap Some (same _ (found_passes test plan.streams once instr)));
      only = λ i p e. let at = only_here test plan.streams once i p instr passes e in (at.0 ∙ sym stream_is, at.1 ∙ sym place_is);
    }

-- a signal that is used once has one step that posts it and one that waits for it
pub stand_once : (plan : PlanModel) (k : ℕ) → IsUsedOnce plan k → StandsOnce plan k
unfolding post_of wait_of
stand_once plan k used = record {
  post = stands plan (is_post k) (Signal k) (eq-eqb k k refl) (is_post_of k) used.0;
  wait = stands plan (is_wait k) (Wait k) (eq-eqb k k refl) (is_wait_of k) used.1;
}

-- an instruction of a plan is of a stream of it
pub code_known : (plan : PlanModel) (i p : ℕ) (instr : Instr) → slice_get (code_at plan i) p ≡ Some instr → i < length plan.streams
code_known plan i p instr e = elim (cases_lt i (length plan.streams)) [
  | inl known ↦ known
  | inr past ↦ absurd (let wrong = sym (ap (λ (s : StreamModel). slice_get s.code p) (get_or_past plan.streams i no_stream past)) ∙ e in cc)
]

-- an instruction knows its signal where all do
knows : (plan : PlanModel) (i p : ℕ) (instr : Instr) → KnowsSignals plan → slice_get (code_at plan i) p ≡ Some instr → KnowsSignal (length plan.signals) instr
knows plan i p instr all e =
    let within = slice_get_within (code_at plan i) p instr e in
    rw (get_or_from_slice_get (code_at plan i) p instr instr e) at (all i no_stream (code_known plan i p instr e) p instr within)

-- what an instruction of a plan posts or waits for is a signal of the plan
pub are_of_plan : (plan : PlanModel) (i p k : ℕ) → KnowsSignals plan → IsOfPlan plan i p k
are_of_plan plan i p k all = record { post = λ e. knows plan i p (Signal k) all e; wait = λ e. knows plan i p (Wait k) all e }
