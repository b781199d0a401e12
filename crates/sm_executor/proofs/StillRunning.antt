-- The number of streams that can be unfinished at once.
use Rattle.std.proofs.Common.{◌≡◌, ◌≤◌, ◌<◌, ◌+◌, ◌*◌, ◌-◌, ◌++◌, ◌∷◌, [], ◌∙◌, ℕ, zero, suc, Bool, true, false, not, refl, sym, ap, subst, arith, length, length-append, inl, inr}
use Rattle.std.specs.Prelude.{if◌then◌else◌, ◌==◌, ◌||◌, nat_le, nat_lt}
use Rattle.std.proofs.lemmas.Bool.{leb-false, cases_eq, and_parts}
use Rattle.std.proofs.lemmas.List.{append-nil}
use Rattle.sm_placement.specs.Sums.{bit, sum_below, any_below}
use Rattle.sm_placement.specs.Setup.{Setup}
use Rattle.sm_reservation.specs.declared.stream_id.StreamId.{StreamId}
use Rattle.sm_plan_code.specs.Plan.{PlanModel}
use Rattle.sm_verifier.specs.Stream.{no_stream}
use Rattle.sm_plan_code.specs.declared.limits.TheConstants.{MOST_PLANS}
use Rattle.sm_protocol.specs.declared.event.Passage.{Passage}
use Rattle.sm_protocol.specs.declared.event.Passage.TheVariants.{Through, LostBefore, LostAfter}
use Rattle.sm_protocol.specs.State.{State, Progress, is_begun, is_running, progress_of, set_progress, stream_count, stream_id, is_unfinished}
use Rattle.sm_protocol.specs.Happens.{Happening, happens, running_plans, started}
use Rattle.sm_protocol.specs.Laws.{IsReached, AreDone}
use Rattle.sm_protocol.proofs.Cases.{OfSteps, of_happens, refill_granted}
use Rattle.sm_protocol.proofs.Invariant.{IsKept}
use Rattle.sm_protocol.proofs.Keeping.{begun}
use Rattle.sm_protocol.proofs.Reached.{by_events}
use Rattle.sm_machine.specs.Tied.{unfinished_count}
use Rattle.sm_machine.proofs.ties.Before.{kept}
use Rattle.sm_machine.proofs.ties.Finishing.{running_same, running_end, running_start}
use Rattle.sm_executor.specs.Closed.{unfinished_in, unfinished_to, unfinished_streams}

-- ---- at most sixteen plans

abbrev FewRun : State → Type 0
FewRun w = running_plans w ≤ MOST_PLANS

module _ (w : State) (h : FewRun w) where
  -- a stream that goes on
  goes_on : (id : StreamId) → is_begun w id ≡ true → (y : Progress) → y.done ≡ (progress_of w id).done → running_plans (record w { progress = set_progress w id y }) ≤ MOST_PLANS
  goes_on id b y d = subst (λ n. n ≤ MOST_PLANS) (sym (running_same w id (begun w id b) y d)) h

  -- and one that makes its end
  ends : (id : StreamId) → is_begun w id ≡ true → (progress_of w id).done ≡ false → running_plans (record w { progress = set_progress w id (record (progress_of w id) { done = true }) }) ≤ MOST_PLANS
  ends id b d =
      let e = (running_end w id (begun w id b) (record (progress_of w id) { done = true }) d refl).1 in
      subst (λ n. n ≤ MOST_PLANS) (sym e) (less (unfinished_count w id.plan == 1))
    where
      less : (t : Bool) → (if t then running_plans w - 1 else running_plans w) ≤ MOST_PLANS
      less true = omega arith
      less false = h

  by_steps : (id : StreamId) (passage : Passage) → OfSteps w id passage (λ o. FewRun o.1)
  by_steps id passage = record {
    idle = λ answer. h;
    refused = λ i x why t e. h;
    at_end = λ b. ends id b.begun b.running;
    publishes = λ i s server b n. goes_on id b.begun _ refl;
    posts = λ q b. goes_on id b.begun _ refl;
    awaits = λ q b e. goes_on id b.begun _ refl;
    lost = λ i x t p. goes_on id t.before.begun _ refl;
    through = λ i x effect t a p. goes_on id t.before.begun _ refl;
    unanswered = λ i x effect t a p. goes_on id t.before.begun _ refl;
  }

  few_next : IsKept w → (e : Happening) → FewRun (happens w e).1
  few_next v e = of_happens w (λ e o. FewRun o.1) (record {
    idle = λ e answer n. h;
    steps = λ id. by_steps id Through;
    loses = λ id after. by_steps id (if after then LostAfter else LostBefore);
    refills = λ id more n. goes_on id (and_begun id (refill_granted w id more n).0) _ refl;
    arrives = λ s v n. h;
    passes_on = λ q o n. h;
    approves = λ v n. h;
    restarts = λ v n. h;
    starts = λ plan n l m. starts plan (leb-false MOST_PLANS (running_plans w) (first (nat_le MOST_PLANS (running_plans w)) _ m));
  }) e
    where
      first : (a b : Bool) → (a || b) ≡ false → a ≡ false
      first true b e = absurd (cc)
      first false b e = refl

      and_begun : (id : StreamId) → is_running w id ≡ true → is_begun w id ≡ true
      and_begun id e = (and_parts (is_begun w id) _ e).0

      starts : (plan : PlanModel) → running_plans w < MOST_PLANS → FewRun (started w plan)
      starts plan l = subst (λ n. n ≤ MOST_PLANS) (sym (running_start w v plan)) (more (nat_lt 0 (length plan.streams)))
        where
          more : (t : Bool) → running_plans w + bit t ≤ MOST_PLANS
          more true = omega arith
          more false = omega arith

pub few_run : (setup : Setup) (w : State) → IsReached setup w → running_plans w ≤ MOST_PLANS
few_run setup w reached = by_events setup FewRun (λ p room o. omega arith) (λ u e at f h. few_next u h (kept setup u at) e) w reached

-- ---- of 64 streams each

-- each plan that was begun has 64 streams at most
pub few_streams : (setup : Setup) (w : State) → IsReached setup w → (k : ℕ) → k < length w.plans → stream_count w k ≤ 64
few_streams setup w reached k l = ((kept setup w reached).plans k l).checked.parts.small.stream_count

-- and each of them has made 4,096 instructions at most
pub few_made : (setup : Setup) (w : State) → IsReached setup w → (k i : ℕ) → k < length w.plans → i < stream_count w k → (w.progress k i).at ≤ 4096
few_made setup w reached k i l m =
    let plan = (kept setup w reached).plans k l in
    let small = (plan.checked.parts.small.streams i no_stream m).code in
    let within = (plan.streams i m).within in
    omega arith

module _ (w : State) (k : ℕ) where
  -- with one more stream there is one more that is unfinished, if that one has not made its end
  pub of_next : (n : ℕ) → length (unfinished_in w k (suc n)) ≡ length (unfinished_in w k n) + bit (not (w.progress k n).done)
  of_next n = length-append (unfinished_in w k n) _ ∙ ap (λ m. length (unfinished_in w k n) + m) (one (w.progress k n).done)
    where
      one : (b : Bool) → length {A = StreamId × ℕ} (if b then [] else (stream_id k n, (w.progress k n).at) ∷ []) ≡ bit (not b)
      one true = refl
      one false = refl

  -- one more stream, which has not made its end or has
  pub next_open : (n : ℕ) → (w.progress k n).done ≡ false → unfinished_in w k (n + 1) ≡ unfinished_in w k n ++ (stream_id k n, (w.progress k n).at) ∷ []
  next_open n d =
      let e : n + 1 ≡ suc n = omega arith in
      ap (unfinished_in w k) e ∙ ap (λ b. unfinished_in w k n ++ (if b then [] else (stream_id k n, (w.progress k n).at) ∷ [])) d

  -- one more stream that has made its end adds nothing
  pub next_done : (n : ℕ) → (w.progress k n).done ≡ true → unfinished_in w k (n + 1) ≡ unfinished_in w k n
  next_done n d =
      let e : n + 1 ≡ suc n = omega arith in
      ap (unfinished_in w k) e ∙ ap (λ b. unfinished_in w k n ++ (if b then [] else (stream_id k n, (w.progress k n).at) ∷ [])) d ∙ append-nil (unfinished_in w k n)

  pub of_within : (n : ℕ) → length (unfinished_in w k n) ≤ n
  of_within zero = omega arith
  of_within (suc n) = let a = of_within n in let b = of_next n in let c = most (w.progress k n).done in omega arith
    where
      most : (b : Bool) → bit (not b) ≤ 1
      most true = omega arith
      most false = omega arith

  -- the first ones are no more than all
  pub of_grows : (n m : ℕ) → length (unfinished_in w k n) ≤ length (unfinished_in w k (n + m))
  of_grows n zero = subst (λ j. length (unfinished_in w k n) ≤ length (unfinished_in w k j)) (let e : n ≡ n + 0 = omega arith in e) (omega arith)
  of_grows n (suc m) =
      subst (λ j. length (unfinished_in w k n) ≤ length (unfinished_in w k j)) (let e : suc (n + m) ≡ n + suc m = omega arith in e) (let a = of_grows n m in let b = of_next (n + m) in omega arith)

  -- of a plan that is done there are none
  pub of_done : (n : ℕ) → any_below n (λ i. not (w.progress k i).done) ≡ false → length (unfinished_in w k n) ≡ 0
  of_done zero e = refl
  of_done (suc n) e =
      let a = of_done n (second (not (w.progress k n).done) _ e) in
      let b = of_next n in
      let c : bit (not (w.progress k n).done) ≡ 0 = ap bit (first (not (w.progress k n).done) _ e) in
      omega arith
    where
      first : (a b : Bool) → (a || b) ≡ false → a ≡ false
      first true b e = absurd (cc)
      first false b e = refl

      second : (a b : Bool) → (a || b) ≡ false → b ≡ false
      second true b e = absurd (cc)
      second false b e = e

  -- and where there are none it is done
  pub done_of : (n : ℕ) → length (unfinished_in w k n) ≡ 0 → any_below n (λ i. not (w.progress k i).done) ≡ false
  done_of zero e = refl
  done_of (suc n) e =
      let b = of_next n in
      let z : bit (not (w.progress k n).done) ≡ 0 = omega arith in
      both (not (w.progress k n).done) _ z (done_of n (omega arith))
    where
      both : (a b : Bool) → bit a ≡ 0 → b ≡ false → (a || b) ≡ false
      both true b z e = absurd (omega (arith, z))
      both false b z e = e

  pub of_plan : stream_count w k ≤ 64 → length (unfinished_in w k (stream_count w k)) ≤ 64 * bit (is_unfinished w k)
  of_plan few = go (is_unfinished w k) refl
    where
      go : (b : Bool) → is_unfinished w k ≡ b → length (unfinished_in w k (stream_count w k)) ≤ 64 * bit b
      go true e = let a = of_within (stream_count w k) in omega arith
      go false e = let a = of_done (stream_count w k) e in omega arith

module _ (setup : Setup) (w : State) (reached : IsReached setup w) where
  to_next : (n : ℕ) → length (unfinished_to w (suc n)) ≡ length (unfinished_to w n) + length (unfinished_in w n (stream_count w n))
  to_next n = length-append (unfinished_to w n) (unfinished_in w n (stream_count w n))

  to_within : (n : ℕ) → n ≤ length w.plans → length (unfinished_to w n) ≤ 64 * sum_below n (λ k. bit (is_unfinished w k))
  to_within zero l = omega arith
  to_within (suc n) l =
      let a = to_within n (omega arith) in
      let b = of_plan w n (few_streams setup w reached n (omega arith)) in
      let c = to_next n in
      omega arith

  to_grows : (n m : ℕ) → length (unfinished_to w n) ≤ length (unfinished_to w (n + m))
  to_grows n zero = subst (λ j. length (unfinished_to w n) ≤ length (unfinished_to w j)) (let e : n ≡ n + 0 = omega arith in e) (omega arith)
  to_grows n (suc m) =
      subst (λ j. length (unfinished_to w n) ≤ length (unfinished_to w j)) (let e : suc (n + m) ≡ n + suc m = omega arith in e) (let a = to_grows n m in let b = to_next (n + m) in omega arith)

  -- so there are 1,024 at most, and those of the first plans with those of the next one are no more
  pub most_unfinished : length (unfinished_streams w) ≤ 1024
  most_unfinished = let a = to_within (length w.plans) (omega arith) in let b = few_run setup w reached in omega arith

  -- those of the first n plans and those of the next one are together 1,024 at most
  pub most_so_far : (n : ℕ) → n < length w.plans → length (unfinished_to w n) + length (unfinished_in w n (stream_count w n)) ≤ 1024
  most_so_far n l =
      let m = length w.plans - suc n in
      let e : suc n + m ≡ length w.plans = omega arith in
      let a = subst (λ j. length (unfinished_to w (suc n)) ≤ length (unfinished_to w j)) e (to_grows (suc n) m) in
      let b = to_next n in
      let c = most_unfinished in
      omega arith

-- where there are none, all plans are done
pub all_done : (w : State) → length (unfinished_streams w) ≡ 0 → AreDone w
all_done w e k l =
    let m = length w.plans - suc k in
    let f : suc k + m ≡ length w.plans = omega arith in
    done_of w k (stream_count w k) (none (length w.plans) k l e)
  where
    none : (n k : ℕ) → k < n → length (unfinished_to w n) ≡ 0 → length (unfinished_in w k (stream_count w k)) ≡ 0
    none zero k l e = absurd (omega arith)
    none (suc n) k l e =
        let a = length-append (unfinished_to w n) (unfinished_in w n (stream_count w n)) in
        elim (cases_eq k n) [
          | inl same ↦ subst (λ j. length (unfinished_in w j (stream_count w j)) ≡ 0) (sym same) (omega arith)
          | inr other ↦ none n k (omega (arith, l, other)) (omega arith)
        ]

-- and where all plans are done there are none
pub none_left : (w : State) → AreDone w → length (unfinished_streams w) ≡ 0
none_left w done = none (length w.plans) (omega arith)
  where
    none : (n : ℕ) → n ≤ length w.plans → length (unfinished_to w n) ≡ 0
    none zero l = refl
    none (suc n) l =
        let a = length-append (unfinished_to w n) (unfinished_in w n (stream_count w n)) in
        let b = none n (omega arith) in
        let c = of_done w n (stream_count w n) (done n (omega arith)) in
        omega arith
