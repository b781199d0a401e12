-- How a machine's pool, grants and parcels stay tied to the state, event by event.
use Rattle.std.proofs.Common.{◌≡◌, ◌<◌, ◌+◌, ℕ, Bool, true, false, refl, sym, ap, ◌∙◌, inl, inr, ◌⊎◌, subst, Some, None, Ok, List, length}
use Rattle.std.specs.Prelude.{◌&&◌, not, if◌then◌else◌}
use Rattle.std.proofs.lemmas.Bool.{cases_eq, and_parts, not-true}
use Rattle.sm_placement.specs.Setup.{Setup}
use Rattle.sm_placement.specs.Sums.{put2}
use Rattle.sm_placement.specs.Place.{CallEffect}
use Rattle.sm_placement.proofs.Sums.{put2-here, put2-row, put2-apart, put2-same}
use Rattle.sm_reservation.specs.declared.stream_id.StreamId.{StreamId}
use Rattle.sm_reservation.specs.Rights.{Rights}
use Rattle.sm_reservation.specs.Hold.{Hold, no_hold, plus}
use Rattle.sm_reservation.specs.HoldOf.{hold_of}
use Rattle.sm_reservation.specs.CanJoin.{CanJoin}
use Rattle.sm_reservation.specs.Key.{IsOrdered}
use Rattle.sm_reservation.specs.Pool.{leads_of}
use Rattle.sm_plan_code.specs.declared.call.ServerCall.{ServerCall}
use Rattle.sm_plan_code.specs.declared.instruction.Instr.{Instr}
use Rattle.sm_plan_code.specs.declared.instruction.Instr.TheVariants.{Publish, Unlist, Signal, Wait}
use Rattle.sm_plan_code.specs.After.{to_list}
use Rattle.sm_verifier.specs.Stream.{hold_before}
use Rattle.sm_protocol.specs.declared.event.Event.TheVariants as event
use Rattle.sm_protocol.specs.declared.event.Logged.{Logged}
use Rattle.sm_protocol.specs.declared.event.Played.TheVariants as played
use Rattle.sm_protocol.specs.State.{State, Progress, Mark, plan_at, signal_count, progress_of, is_begun, is_running, set_progress, reach, hold_at_progress, hold_of_stream, parcel_at, is_under_way, pool}
use Rattle.sm_protocol.specs.Steps.{served_try, behind_call, ahead_of_call, call_number, number_after_try, tried_more, call_lost, entry_added, posted, ended}
use Rattle.sm_protocol.specs.Laws.{IsReached}
use Rattle.sm_protocol.proofs.Invariant.{IsRunning, IsKept}
use Rattle.sm_protocol.proofs.Courses.{not_posted}
use Rattle.sm_protocol.proofs.Numbers.{one_stream, same_stream, goes_on}
use Rattle.sm_protocol.proofs.Steps.{one_on}
use Rattle.sm_protocol.proofs.Trials.{running}
use Rattle.sm_protocol.proofs.Cases.{IsBefore, IsTry, answer_to, parcel_taken}
use Rattle.sm_protocol.proofs.LogRoom.{ok_is}
use Rattle.sm_machine.specs.Tied.{IsTied, carried}
use Rattle.sm_machine.proofs.ties.Before.{course_at, hold_behind, kept, known}
use Rattle.sm_machine.proofs.ties.Calling.{answered_again}
use Rattle.sm_machine.proofs.ties.Carrying.{none_ahead, can_give_back}
use Rattle.sm_machine.proofs.ties.Making.{kept_published, kept_unlisted, kept_posted, kept_taken, kept_ended, kept_through, kept_unanswered, kept_lost}
use Rattle.sm_machine.proofs.ties.Balancing.{pool_of_call, pool_of_same, pool_of_publish, pool_of_unlist, pool_of_post, pool_of_take, pool_of_end, pool_of_refill}

-- ---- functions of two numbers

-- a function changed at a pair is as it was at another one
pub put2_others : {A : Type 0} (f : ℕ → ℕ → A) (s v : ℕ) (x : A) (a b : ℕ) → ((a ≡ s) → (b ≡ v) → ⊥) → put2 f s v x a b ≡ f a b
put2_others f s v x a b n = elim (cases_eq a s) [
  | inr e ↦ put2-apart f s v x a b e
  | inl e ↦ subst (λ z. put2 f s v x z b ≡ f z b) (sym e) (put2-row f s v x b (λ d. n e d))
]

-- and another one there
pub put2_at : {A : Type 0} (f : ℕ → ℕ → A) (s v : ℕ) (x : A) (a b : ℕ) → a ≡ s → b ≡ v → put2 f s v x a b ≡ x
put2_at f s v x a b e d = subst (λ z. put2 f s v x z b ≡ x) (sym e) (subst (λ z. put2 f s v x s z ≡ x) (sym d) (put2-here f s v x))

-- ---- a stream goes on

-- what its streams hold, as a stream goes on: another grant stands for it, and the others stand
goes_tied : (w : State) (g : ℕ → ℕ → Hold) → ((a : StreamId) → is_running w a ≡ true → g a.plan a.stream ≡ hold_of_stream w a.plan a.stream) → (id : StreamId) (y : Progress) (h : Hold) →
    (y.done ≡ false → h ≡ hold_at_progress w id.plan id.stream y) → (a : StreamId) → is_running (record w { progress = set_progress w id y }) a ≡ true →
    put2 g id.plan id.stream h a.plan a.stream ≡ hold_at_progress w a.plan a.stream (set_progress w id y a.plan a.stream)
goes_tied w g ties id y h is a runs = elim (one_stream a id) [
  | inl e ↦
      let here : set_progress w id y a.plan a.stream ≡ y = put2_at w.progress id.plan id.stream y a.plan a.stream (ap (λ z. z.plan) e) (ap (λ z. z.stream) e) in
      let parts = and_parts (is_begun w a) (not (set_progress w id y a.plan a.stream).done) runs in
      let unended : y.done ≡ false = not-true y.done (sym (ap (λ z. not z.done) here) ∙ parts.1) in
      put2_at g id.plan id.stream h a.plan a.stream (ap (λ z. z.plan) e) (ap (λ z. z.stream) e)
      ∙ is unended
      ∙ ap (λ z. hold_at_progress w z.plan z.stream y) (sym e)
      ∙ ap (λ z. hold_at_progress w a.plan a.stream z) (sym here)
  | inr e ↦
      let there : set_progress w id y a.plan a.stream ≡ progress_of w a = (goes_on w id y).others a e in
      put2_others g id.plan id.stream h a.plan a.stream (λ p q. e (same_stream a id p q))
      ∙ ties a (sym (ap (λ z. is_begun w a && not z.done) there) ∙ runs)
      ∙ ap (λ z. hold_at_progress w a.plan a.stream z) (sym there)
]

-- ---- signals

-- the parcels under way, as one signal is posted or awaited
sends_tied : (w : State) (c : ℕ → ℕ → Hold) → ((k q : ℕ) → k < length w.plans → q < signal_count w k → c k q ≡ carried w k q) → (j n : ℕ) (z : Mark) (h : Hold) →
    h ≡ (if is_under_way z then hold_of (parcel_at w j n) else no_hold) → (k q : ℕ) → k < length w.plans → q < signal_count w k →
    put2 c j n h k q ≡ carried (record w { marks = put2 w.marks j n z }) k q
sends_tied w c ties j n z h is k q l m = elim (cases_pair k q j n) [
  | inl e ↦
      let here : put2 w.marks j n z k q ≡ z = put2_at w.marks j n z k q e.0 e.1 in
      put2_at c j n h k q e.0 e.1
      ∙ is
      ∙ ap (λ a. if is_under_way z then hold_of (parcel_at w a n) else no_hold) (sym e.0)
      ∙ ap (λ a. if is_under_way z then hold_of (parcel_at w k a) else no_hold) (sym e.1)
      ∙ ap (λ a. if is_under_way a then hold_of (parcel_at w k q) else no_hold) (sym here)
  | inr e ↦
      let there : put2 w.marks j n z k q ≡ w.marks k q = put2_others w.marks j n z k q e in
      put2_others c j n h k q e ∙ ties k q l m ∙ ap (λ a. if is_under_way a then hold_of (parcel_at w k q) else no_hold) (sym there)
]
  where
    cases_pair : (a b s v : ℕ) → ((a ≡ s) × (b ≡ v)) ⊎ ((a ≡ s) → (b ≡ v) → ⊥)
    cases_pair a b s v = elim (cases_eq a s) [
      | inr e ↦ inr (λ p q. e p)
      | inl e ↦ elim (cases_eq b v) [ inl d ↦ inl (e, d) | inr d ↦ inr (λ p q. d q) ]
    ]

-- ---- events

module _ (setup : Setup) (w : State) (reached : IsReached setup w) (p : Hold) (g c : ℕ → ℕ → Hold) (t : IsTied w p g c) where
  abbrev v : IsKept w
  v = kept setup w reached

  -- Nothing that is recorded changes any of it, and neither does the halt flag.
  pub tied_recorded : (log : List Logged) → IsTied (record w { log = log }) p g c
  tied_recorded log = record { pool = t.pool; grants = t.grants; parcels = t.parcels }

  -- the halt flag changes none of it
  pub tied_halted : (flag : Bool) → IsTied (record w { halted = flag }) p g c
  tied_halted flag = record { pool = t.pool; grants = t.grants; parcels = t.parcels }

  module _ (id : StreamId) where
    abbrev now : Progress
    now = progress_of w id

    -- a stream stands otherwise, and holds what it held
    stays_tied : (y : Progress) → (y.done ≡ false → now.done ≡ false) → reach y.at y.ahead ≡ reach now.at now.ahead → is_begun w id ≡ true →
        (a : StreamId) → is_running (record w { progress = set_progress w id y }) a ≡ true → g a.plan a.stream ≡ hold_at_progress w a.plan a.stream (set_progress w id y a.plan a.stream)
    stays_tied y d at b a runs =
        ap (λ f. f a.plan a.stream) (sym (put2-same g id.plan id.stream _ refl))
        ∙ goes_tied w g t.grants id y (g id.plan id.stream)
        (λ e. t.grants id (ap (λ z. z && not now.done) b ∙ ap not (d e)) ∙ ap (λ q. hold_before (course_at w id) q) (sym at)) a runs

    -- a refill changes none of it
    pub tied_refilled : is_running w id ≡ true → (more : ℕ) (log : List Logged) → IsTied (record w { progress = set_progress w id (record now { refills = now.refills + more }); log = log }) p g c
    tied_refilled runs more log =
        let b = and_parts (is_begun w id) (not now.done) runs in
        let n = Rattle.sm_protocol.proofs.Keeping.begun w id b.0 in
        let y : Progress = record now { refills = now.refills + more } in
        let new : State = record w { progress = set_progress w id y; log = log } in
        record {
          pool = t.pool ∙ sym (pool_of_refill w v id (record { plan = n.plan; stream = n.stream }) more log);
          grants = stays_tied y (λ e. e) refl b.0;
          parcels = t.parcels;
        }

    -- ---- calls

    module _ (i : Instr) (x : ServerCall) (try : IsTry w id i x) where
      -- a call that has its effect now: what the stream holds behind it stands for the stream
      pub tied_through : now.ahead ≡ false → (effect : CallEffect) → answer_to w id x ≡ Ok effect →
          IsTied (served_try w id i effect (behind_call now effect.fresh) (event.Step id) played.Moved) p (put2 g id.plan id.stream (hold_behind w id)) c
      tied_through a effect e = record {
        pool = t.pool ∙ sym (pool_of_call w v id i x try a effect e (behind_call now effect.fresh) try.before.running refl (event.Step id) played.Moved (kept_through w v id i x try effect e));
        grants = goes_tied w g t.grants id (behind_call now effect.fresh) (hold_behind w id) (λ d. refl);
        parcels = t.parcels;
      }

      -- a call that has its effect now, and whose answer is lost
      pub tied_unanswered : now.ahead ≡ false → (effect : CallEffect) → answer_to w id x ≡ Ok effect →
          IsTied (served_try w id i effect (ahead_of_call w now effect.fresh) (event.Lose id true) played.Lost) p (put2 g id.plan id.stream (hold_behind w id)) c
      tied_unanswered a effect e = record {
        pool = t.pool ∙ sym (pool_of_call w v id i x try a effect e (ahead_of_call w now effect.fresh) try.before.running refl (event.Lose id true) played.Lost (kept_unanswered w v id i x try effect e));
        grants = goes_tied w g t.grants id (ahead_of_call w now effect.fresh) (hold_behind w id) (λ d. refl);
        parcels = t.parcels;
      }

      -- a call that had its effect before changes none of it
      pub tied_again : now.ahead ≡ true → (effect : CallEffect) → answer_to w id x ≡ Ok effect →
          IsTied (served_try w id i effect (behind_call now effect.fresh) (event.Step id) played.Moved) p g c
      tied_again a effect e =
          subst (λ z. IsTied (served_try w id i z (behind_call now z.fresh) (event.Step id) played.Moved) p g c) (had a effect e)
          (record {
            pool = t.pool ∙ sym (pool_of_same w v id (Some i) try.before (behind_call now false) try.before.running (ap (λ q. reach now.at q) (sym a)) w.numbers (number_after_try w now) _
                (subst (λ z. IsKept (served_try w id i z (behind_call now z.fresh) (event.Step id) played.Moved)) (sym (had a effect e)) (kept_through w v id i x try effect e)));
            grants = stays_tied (behind_call now false) (λ d. d) (ap (λ q. reach now.at q) (sym a)) try.before.begun;
            parcels = t.parcels;
          })
        where
          had : now.ahead ≡ true → (effect : CallEffect) → answer_to w id x ≡ Ok effect → record { place = w.place; fresh = false } ≡ effect
          had a effect e = ok_is _ effect (sym (answered_again w v id i try.before try.call x try.call_is a) ∙ e)

      -- nor does one that had its effect before, and whose answer is lost again
      pub tied_unanswered_again : now.ahead ≡ true → (effect : CallEffect) → answer_to w id x ≡ Ok effect →
          IsTied (served_try w id i effect (ahead_of_call w now effect.fresh) (event.Lose id true) played.Lost) p g c
      tied_unanswered_again a effect e =
          subst (λ z. IsTied (served_try w id i z (ahead_of_call w now z.fresh) (event.Lose id true) played.Lost) p g c) (had a effect e)
          (record {
            pool = t.pool ∙ sym (pool_of_same w v id (Some i) try.before (ahead_of_call w now false) try.before.running (ap (λ q. reach now.at q) (sym a)) w.numbers (number_after_try w now) _
                (subst (λ z. IsKept (served_try w id i z (ahead_of_call w now z.fresh) (event.Lose id true) played.Lost)) (sym (had a effect e)) (kept_unanswered w v id i x try effect e)));
            grants = stays_tied (ahead_of_call w now false) (λ d. d) (ap (λ q. reach now.at q) (sym a)) try.before.begun;
            parcels = t.parcels;
          })
        where
          had : now.ahead ≡ true → (effect : CallEffect) → answer_to w id x ≡ Ok effect → record { place = w.place; fresh = false } ≡ effect
          had a effect e = ok_is _ effect (sym (answered_again w v id i try.before try.call x try.call_is a) ∙ e)

      -- a try that is lost before it comes to its server changes none of it
      pub tied_lost : IsTied (call_lost w id) p g c
      tied_lost =
          let y : Progress = record (tried_more now false) { pending = call_number w now } in
          record {
            pool = t.pool ∙ sym (pool_of_same w v id (Some i) try.before y try.before.running refl w.numbers (number_after_try w now) _ (kept_lost w v id i x try));
            grants = stays_tied y (λ d. d) refl try.before.begun;
            parcels = t.parcels;
          }

    -- ---- instructions that are no calls

    -- with a publish, what the stream holds behind it stands for the stream
    pub tied_published : (s : ℕ) → IsBefore w id (Some (Publish s)) → IsTied (entry_added w id s (to_list (leads_of w.sizes w.place s))).1 p (put2 g id.plan id.stream (hold_behind w id)) c
    tied_published s b = record {
      pool = t.pool ∙ sym (pool_of_publish w v id s b (kept_published w v id s b));
      grants = goes_tied w g t.grants id (one_on now) (hold_behind w id) (λ d. ap (λ q. hold_before (course_at w id) (reach (now.at + 1) q)) (sym (none_ahead w v id _ b refl)));
      parcels = t.parcels;
    }

    -- the same with an unlist
    pub tied_unlisted : (s : ℕ) → IsBefore w id (Some (Unlist s)) → IsTied (entry_added w id s None).1 p (put2 g id.plan id.stream (hold_behind w id)) c
    tied_unlisted s b = record {
      pool = t.pool ∙ sym (pool_of_unlist w v id s b (kept_unlisted w v id s b));
      grants = goes_tied w g t.grants id (one_on now) (hold_behind w id) (λ d. ap (λ q. hold_before (course_at w id) (reach (now.at + 1) q)) (sym (none_ahead w v id _ b refl)));
      parcels = t.parcels;
    }

    -- the parcel of a signal that is posted is under way
    pub tied_posted : (q : ℕ) → IsBefore w id (Some (Signal q)) →
        IsTied (posted w id q).1 p (put2 g id.plan id.stream (hold_behind w id)) (put2 c id.plan q (hold_of (parcel_at w id.plan q)))
    tied_posted q b =
        let n = known w v id _ b in
        let run : IsRunning w.sizes w.place (plan_at w id.plan) (w.progress id.plan) (w.marks id.plan) = running w v id n in
        let once = not_posted w.sizes w.place (plan_at w id.plan) (w.progress id.plan) (w.marks id.plan) run id.stream n.stream q b.next_is in
        record {
          pool = t.pool ∙ sym (pool_of_post w v id q b (kept_posted w v id q b));
          grants = goes_tied w g t.grants id (one_on now) (hold_behind w id) (λ d. ap (λ q. hold_before (course_at w id) (reach (now.at + 1) q)) (sym (none_ahead w v id _ b refl)));
          parcels = sends_tied w c t.parcels id.plan q (record (w.marks id.plan q) { posted = true }) (hold_of (parcel_at w id.plan q))
              (ap (λ z. if not z then hold_of (parcel_at w id.plan q) else no_hold) (sym once.2));
        }

    -- the parcel of a signal that is awaited is under way no longer
    pub tied_taken : (q : ℕ) → IsBefore w id (Some (Wait q)) → (w.marks id.plan q).posted ≡ true →
        IsTied (parcel_taken w id q) p (put2 g id.plan id.stream (hold_behind w id)) (put2 c id.plan q no_hold)
    tied_taken q b e = record {
      pool = t.pool ∙ sym (pool_of_take w v id q b e (kept_taken w v id q b e));
      grants = goes_tied w g t.grants id (one_on now) (hold_behind w id) (λ d. ap (λ q. hold_before (course_at w id) (reach (now.at + 1) q)) (sym (none_ahead w v id _ b refl)));
      parcels = sends_tied w c t.parcels id.plan q (record (w.marks id.plan q) { awaited = true }) no_hold
          (ap (λ z. if z && false then hold_of (parcel_at w id.plan q) else no_hold) (sym e));
    }

    -- what a stream holds at its end is in the pool
    pub tied_ended : IsBefore w id None → (rights : Rights) → IsOrdered rights → hold_of rights ≡ hold_of_stream w id.plan id.stream → (h : Hold) →
        IsTied (ended w id).1 (plus p rights) (put2 g id.plan id.stream h) c
    tied_ended b rights ordered holds h =
        let n = known w v id _ b in
        let give = can_give_back setup w reached id n b.running in
        record {
          pool = ap (λ z. plus z rights) t.pool ∙ pool_of_end w v id b (kept_ended w v id b) rights ordered holds (subst (CanJoin (pool w)) (sym holds) give.1);
          grants = goes_tied w g t.grants id (record now { done = true }) h (λ d. absurd (cc));
          parcels = t.parcels;
        }
