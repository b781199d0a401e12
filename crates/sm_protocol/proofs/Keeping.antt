-- The proof obligations of an event, and the common part of those that let one stream go on.
use Rattle.sm_protocol.proofs.Below.{◌≡◌, ◌≢◌, ℕ, ◌<◌, ◌≤◌, List, arith, true, false, refl, sym, ap, inl, inr, subst, length, cases_eq, cases_Bool, lt-ltb, ltb-true, and_parts, put, Place, StreamId, Right, count, stream_at, hold_before, put-here, put-apart}
use Rattle.sm_protocol.proofs.Words.{Logged, State, Progress, Mark, fresh, plan_at, stream_count, progress_of, set_progress, is_begun, reach, Outcome, Refused}
use Rattle.sm_protocol.proofs.Invariant.{IsRunning, AreNumbered, IsKept, code_of}
use Rattle.sm_protocol.proofs.Holds.{share, held_moves}
use Rattle.sm_protocol.proofs.Courses.{elsewhere}
use Rattle.sm_protocol.proofs.Numbers.{each_stream, goes_on}
use Rattle.sm_protocol.proofs.Trials.{IsBegun}

-- no call is refused, and the state is kept
abbrev pub Keeps : Outcome × State → Type 0
Keeps o = (o.0 ≢ Refused) × IsKept o.1

-- ---- streams that were begun

-- a stream that tests as begun was begun
pub begun : (w : State) (id : StreamId) → is_begun w id ≡ true → IsBegun w id
begun w id e = let p = and_parts _ _ e in record { plan = ltb-true id.plan (length w.plans) p.0; stream = ltb-true id.stream (stream_count w id.plan) p.1 }

-- and one that was begun tests as begun
pub is_begun_true : (w : State) (id : StreamId) → IsBegun w id → is_begun w id ≡ true
is_begun_true w id b = rw (lt-ltb id.plan (length w.plans) b.plan) (lt-ltb id.stream (stream_count w id.plan) b.stream)

-- a stream whose progress isn't that of one that was never begun was begun
pub begun_where_ahead : (w : State) (v : IsKept w) (id : StreamId) → (progress_of w id).ahead ≡ true → IsBegun w id
begun_where_ahead w v id a = elim (cases_Bool (is_begun w id)) [
  | inl e ↦ begun w id e
  | inr e ↦ absurd (let f = ap (λ x. x.ahead) (v.unbegun id e) in cc)
]

-- ---- one stream goes on

module _ (w : State) (v : IsKept w) (id : StreamId) (b : IsBegun w id) (y : Progress) where
  -- nothing has happened to streams that were not begun, once this one has gone on
  pub unbegun_after : (a : StreamId) → is_begun w a ≡ false → set_progress w id y a.plan a.stream ≡ fresh
  unbegun_after = each_stream (goes_on w id y) (λ a z. is_begun w a ≡ false → z ≡ fresh) (λ e. absurd (let t = is_begun_true w id b in cc)) (λ a n. v.unbegun a)

  -- the other plans run as before
  pub plans_after : (p' : Place) (m : ℕ → ℕ → Mark) → p'.down ≡ w.place.down → ((j : ℕ) → j ≢ id.plan → m j ≡ w.marks j) →
      IsRunning w.sizes w.place (plan_at w id.plan) (put (w.progress id.plan) id.stream y) (m id.plan) →
      (j : ℕ) → j < length w.plans → IsRunning w.sizes p' (plan_at w j) (set_progress w id y j) (m j)
  plans_after p' m e apart ok j l = elim (cases_eq j id.plan) [
    | inl q ↦
        subst (λ z. IsRunning w.sizes p' (plan_at w z) (set_progress w id y z) (m z)) (sym q)
        (subst (λ f. IsRunning w.sizes p' (plan_at w id.plan) f (m id.plan)) (sym (put-here w.progress id.plan (put (w.progress id.plan) id.stream y) id.plan refl))
        (elsewhere w.sizes w.place p' (plan_at w id.plan) _ (m id.plan) e ok))
    | inr q ↦
        subst (λ f. IsRunning w.sizes p' (plan_at w j) f (m j)) (sym (put-apart w.progress id.plan (put (w.progress id.plan) id.stream y) j q))
        (subst (λ f. IsRunning w.sizes p' (plan_at w j) (w.progress j) f) (sym (apart j q))
        (elsewhere w.sizes w.place p' (plan_at w j) (w.progress j) (w.marks j) e (v.plans j l)))
  ]

  -- its progress alone, and the next number of calls, are others, and it holds no more
  pub progress_keeps : (n : ℕ) (log : List Logged) → IsRunning w.sizes w.place (plan_at w id.plan) (put (w.progress id.plan) id.stream y) (w.marks id.plan) →
      ((r : Right) → share w id r y ≤ share w id r (progress_of w id)) → AreNumbered w.place.last n (code_of w) (λ i. set_progress w id y i.plan i.stream) →
      IsKept (record w { next_number = n; progress = set_progress w id y; log = log })
  progress_keeps n log runs less numbered = record {
    leads = v.leads;
    stage = v.stage;
    plans = plans_after w.place w.marks refl (λ j q. refl) runs;
    unbegun = unbegun_after;
    later_marks = v.later_marks;
    fits = λ r. let h = held_moves w id y b.plan b.stream r in let f = v.fits r in let l = less r in omega arith;
    numbered = numbered;
  }

-- what a stream holds that hasn't made its end
pub share_now : (w : State) (id : StreamId) (r : Right) (y : Progress) → y.done ≡ false → share w id r y ≡ count (hold_before (stream_at w.sizes (plan_at w id.plan) id.stream) (reach y.at y.ahead)) r
share_now w id r y d = rw d refl

-- a stream that has made its end holds nothing
pub share_none : (w : State) (id : StreamId) (r : Right) (y : Progress) → y.done ≡ true → share w id r y ≡ 0
share_none w id r y d = rw d refl
