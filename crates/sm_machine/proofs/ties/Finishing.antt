-- The numbers of unfinished streams of a plan, and of unfinished plans: a machine counts what the state says.
use Rattle.std.proofs.Common.{◌≡◌, ◌≢◌, ◌<◌, ◌+◌, ◌-◌, ℕ, zero, suc, Bool, true, false, not, refl, sym, ap, ◌∙◌, arith, inl, inr, subst, length}
use Rattle.std.specs.Prelude.{◌==◌, nat_lt, if◌then◌else◌}
use Rattle.std.proofs.lemmas.Bool.{cases_eq, eq-eqb, ne_eqb, lt-ltb, le-ltb}
use Rattle.sm_placement.specs.Sums.{bit, sum_below, count_below}
use Rattle.sm_placement.proofs.Sums.{same_sum, sum_apart, part_of_sum}
use Rattle.sm_placement.proofs.Searches.{any_by_count}
use Rattle.sm_reservation.specs.declared.stream_id.StreamId.{StreamId}
use Rattle.sm_plan_code.specs.Plan.{PlanModel}
use Rattle.sm_protocol.specs.State.{State, Progress, fresh, stream_count, progress_of, set_progress, is_unfinished}
use Rattle.sm_protocol.specs.Happens.{running_plans, started}
use Rattle.sm_protocol.proofs.Invariant.{IsKept}
use Rattle.sm_protocol.proofs.Trials.{IsBegun}
use Rattle.sm_protocol.proofs.LogRoom.{plan_before, plan_started, count_started}
use Rattle.sm_machine.specs.Tied.{unfinished_count}
use Rattle.sm_machine.proofs.ties.Tying.{put2_at, put2_others}

-- a plan is unfinished where some of its streams is
pub unfinished_is : (w : State) (k : ℕ) → is_unfinished w k ≡ nat_lt 0 (unfinished_count w k)
unfinished_is w k = any_by_count (stream_count w k) (λ i. not (w.progress k i).done)

-- how many plans are unfinished, by the counts of their streams
abbrev pub running_by : ℕ → (ℕ → ℕ) → ℕ
running_by n counts = sum_below n (λ k. bit (nat_lt 0 (counts k)))

-- how many plans are unfinished is told by how many streams of each are
pub running_is : (w : State) → running_plans w ≡ running_by (length w.plans) (unfinished_count w)
running_is w = same_sum (length w.plans) (λ k. bit (is_unfinished w k)) (λ k. bit (nat_lt 0 (unfinished_count w k))) (λ k l. ap bit (unfinished_is w k))

module _ (w : State) (id : StreamId) (b : IsBegun w id) (y : Progress) where
  abbrev new : State
  new = record w { progress = set_progress w id y }

  -- the other plans have as many
  pub unfinished_others : (k : ℕ) → k ≢ id.plan → unfinished_count new k ≡ unfinished_count w k
  unfinished_others k e = same_sum (stream_count w k) _ _ (λ i l. ap (λ x. bit (not x.done)) (put2_others w.progress id.plan id.stream y k i (λ p q. e p)))

  unfinished_moves : unfinished_count new id.plan + bit (not (progress_of w id).done) ≡ unfinished_count w id.plan + bit (not y.done)
  unfinished_moves =
      let here : bit (not (set_progress w id y id.plan id.stream).done) ≡ bit (not y.done) = ap (λ x. bit (not x.done)) (put2_at w.progress id.plan id.stream y id.plan id.stream refl refl) in
      sum_apart (stream_count w id.plan) (λ i. bit (not (set_progress w id y id.plan i).done)) (λ i. bit (not (w.progress id.plan i).done)) id.stream (bit (not (progress_of w id).done)) (bit (not y.done)) b.stream
      (λ i e. ap (λ x. bit (not x.done)) (put2_others w.progress id.plan id.stream y id.plan i (λ p q. e q)))
      (omega arith)

  -- a stream that goes on, or stands, leaves the counts as they are
  pub unfinished_same : y.done ≡ (progress_of w id).done → (k : ℕ) → unfinished_count new k ≡ unfinished_count w k
  unfinished_same d k = elim (cases_eq k id.plan) [
    | inl e ↦ subst (λ z. unfinished_count new z ≡ unfinished_count w z) (sym e) (let m = unfinished_moves in let q : bit (not y.done) ≡ bit (not (progress_of w id).done) = ap (λ t. bit (not t)) d in omega arith)
    | inr e ↦ unfinished_others k e
  ]

  -- and as many plans are unfinished as before
  pub running_same : y.done ≡ (progress_of w id).done → running_plans new ≡ running_plans w
  running_same d = running_is new ∙ same_sum (length w.plans) _ _ (λ k l. ap (λ n. bit (nat_lt 0 n)) (unfinished_same d k)) ∙ sym (running_is w)

  -- one that makes its end is one less
  pub unfinished_end : (progress_of w id).done ≡ false → y.done ≡ true → unfinished_count new id.plan + 1 ≡ unfinished_count w id.plan
  unfinished_end d e =
      let m = unfinished_moves in
      let p : bit (not (progress_of w id).done) ≡ 1 = ap (λ t. bit (not t)) d in
      let q : bit (not y.done) ≡ 0 = ap (λ t. bit (not t)) e in
      omega arith

  -- and with the last one of a plan a plan is
  pub running_end : (progress_of w id).done ≡ false → y.done ≡ true →
      (0 < running_plans w) × (running_plans new ≡ (if unfinished_count w id.plan == 1 then running_plans w - 1 else running_plans w))
  running_end d e =
      let n = unfinished_end d e in
      let old = running_is w in
      let next = running_is new in
      let was : bit (nat_lt 0 (unfinished_count w id.plan)) ≡ 1 = ap bit (lt-ltb 0 (unfinished_count w id.plan) (omega arith)) in
      let part = part_of_sum (length w.plans) (λ k. bit (nat_lt 0 (unfinished_count w k))) id.plan b.plan in
      let some : 0 < running_plans w = omega arith in
      let moves : running_by (length w.plans) (unfinished_count new) + 1 ≡ running_by (length w.plans) (unfinished_count w) + bit (nat_lt 0 (unfinished_count new id.plan)) =
      sum_apart (length w.plans) (λ k. bit (nat_lt 0 (unfinished_count new k))) (λ k. bit (nat_lt 0 (unfinished_count w k))) id.plan 1 (bit (nat_lt 0 (unfinished_count new id.plan))) b.plan
      (λ k f. ap (λ z. bit (nat_lt 0 z)) (unfinished_others k f)) (omega arith) in (
        some,
        elim (cases_eq (unfinished_count w id.plan) 1) [
          | inl one ↦
              let z : bit (nat_lt 0 (unfinished_count new id.plan)) ≡ 0 = ap bit (le-ltb 0 (unfinished_count new id.plan) (omega arith)) in
              let chosen : (if unfinished_count w id.plan == 1 then running_plans w - 1 else running_plans w) ≡ running_plans w - 1 = rw (eq-eqb (unfinished_count w id.plan) 1 one) refl in
              let r : running_plans new ≡ running_plans w - 1 = omega arith in
              r ∙ sym chosen
          | inr more ↦
              let z : bit (nat_lt 0 (unfinished_count new id.plan)) ≡ 1 = ap bit (lt-ltb 0 (unfinished_count new id.plan) (omega arith)) in
              let chosen : (if unfinished_count w id.plan == 1 then running_plans w - 1 else running_plans w) ≡ running_plans w = rw (ne_eqb (unfinished_count w id.plan) 1 more) refl in
              let r : running_plans new ≡ running_plans w = omega arith in
              r ∙ sym chosen
        ],
      )

-- ---- starts

module _ (w : State) (v : IsKept w) (plan : PlanModel) where
  -- a start leaves the counts of the earlier plans as they are
  pub unfinished_before : (k : ℕ) → k < length w.plans → unfinished_count (started w plan) k ≡ unfinished_count w k
  unfinished_before k l = ap (λ (x : PlanModel). count_below (length x.streams) (λ i. not (w.progress k i).done)) (plan_before w plan k l)

  all_counted : (n : ℕ) (t : ℕ → Bool) → ((i : ℕ) → t i ≡ true) → count_below n t ≡ n
  all_counted zero t all = refl
  all_counted (suc n) t all = let a = all_counted n t all in let b : bit (t n) ≡ 1 = ap bit (all n) in omega arith

  unbegun : (i : ℕ) → w.progress (length w.plans) i ≡ fresh
  unbegun i = v.unbegun (record { plan = length w.plans; stream = i }) (rw (le-ltb (length w.plans) (length w.plans) (omega arith)) refl)

  -- all streams of a plan that starts are unfinished
  pub unfinished_start : unfinished_count (started w plan) (length w.plans) ≡ length plan.streams
  unfinished_start =
      ap (λ (x : PlanModel). count_below (length x.streams) (λ i. not (w.progress (length w.plans) i).done)) (plan_started w plan)
      ∙ all_counted (length plan.streams) (λ i. not (w.progress (length w.plans) i).done) (λ i. ap (λ x. not x.done) (unbegun i))

  -- and the plan is one more that is unfinished, if it has streams
  pub running_start : running_plans (started w plan) ≡ running_plans w + bit (nat_lt 0 (length plan.streams))
  running_start =
      let old = running_is w in
      let all : running_plans (started w plan) ≡ running_by (suc (length w.plans)) (unfinished_count (started w plan)) =
      running_is (started w plan) ∙ ap (λ n. running_by n (unfinished_count (started w plan))) (count_started w plan) in
      let before : running_by (length w.plans) (unfinished_count (started w plan)) ≡ running_by (length w.plans) (unfinished_count w) =
      same_sum (length w.plans) _ _ (λ k l. ap (λ n. bit (nat_lt 0 n)) (unfinished_before k l)) in
      let last : bit (nat_lt 0 (unfinished_count (started w plan) (length w.plans))) ≡ bit (nat_lt 0 (length plan.streams)) = ap (λ n. bit (nat_lt 0 n)) unfinished_start in
      omega arith
