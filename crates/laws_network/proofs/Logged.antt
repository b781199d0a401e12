-- The numbers of orders are told by what the controller has recorded: its log, and the lengths that the log had at the starts of plans.
use Rattle.std.proofs.Common.{◌≡◌, ◌≢◌, ℕ, ◌+◌, ◌<◌, ◌⊎◌, refl, sym, ap, ◌∙◌, inl, inr, subst, arith, not, Bool, true, false, Option, Some, None, List, [], ◌∷◌, ◌++◌, length}
use Rattle.std.specs.Prelude.{◌==◌, ◌&&◌, nat_lt, if◌then◌else◌, slice_get, slice_index_or}
use Rattle.std.proofs.lemmas.Bool.{and_from, and_parts, cases_Bool, cases_lt, eq-eqb, lt-ltb, ne_eqb, not-true}
use Rattle.std.proofs.lemmas.List.{get_or_append_left}
use Rattle.std.proofs.Math.Seq.{get_or-append_seam}
use Rattle.sm_placement.specs.Setup.{Setup, Sizes, sizes_of}
use Rattle.sm_placement.specs.Place.{Place}
use Rattle.sm_plan_code.specs.Plan.{PlanModel}
use Rattle.sm_protocol.specs.declared.event.Event.{Event}
use Rattle.sm_protocol.specs.declared.event.Event.TheVariants as event
use Rattle.sm_protocol.specs.declared.event.Played.{Played}
use Rattle.sm_protocol.specs.declared.event.Passage.{Passage}
use Rattle.sm_protocol.specs.declared.event.Passage.TheVariants.{LostAfter, LostBefore, Through}
use Rattle.sm_protocol.specs.State.{Progress, Start, State, is_begun, is_running, logged, no_start, opened, progress_of, set_progress, stream_count}
use Rattle.sm_protocol.specs.Happens.{Happening, Step, started, happens}
use Rattle.sm_protocol.proofs.Cases.{OfSteps, of_happens}
use Rattle.sm_protocol.proofs.LogRoom.{begun_parts, begun_stays, count_started, length_logged, plan_before}
use Rattle.sm_protocol.proofs.Numbers.{goes_on, one_stream}
use Rattle.laws_network.proofs.Traced.{Answer, Ask, Control, Deliver, Logged, Net, NetEvent, Order, Pass, Quiet, Send, StreamId, Ticket, answer_taken, at_place, passed, comes, controlled, delivered, is_awaited, is_own, is_step_of, is_token, net_run, since_after, since_in, since_of, without}
use Rattle.laws_network.proofs.TracedLaws.{IsNetOpening, IsNetReached}
use Rattle.laws_network.proofs.Lists.{other_token}
use Rattle.laws_network.proofs.Once.{is_delivered}

-- ---- a log with one line more

-- a step of the stream
pub since_step : (id : StreamId) (start n : ℕ) (xs : List Logged) (x : Logged) → is_step_of id x.event ≡ true → since_in id start n (xs ++ x ∷ []) ≡ n + length xs + 1
since_step id start n [] x e = let a : (if is_step_of id x.event then n + 1 else start) ≡ n + 1 = rw e refl in omega arith
since_step id start n (y ∷ ys) x e = let a = since_step id (if is_step_of id y.event then n + 1 else start) (n + 1) ys x e in omega arith

-- a line that is no step of it
pub since_other : (id : StreamId) (start n : ℕ) (xs : List Logged) (x : Logged) → is_step_of id x.event ≡ false → since_in id start n (xs ++ x ∷ []) ≡ since_in id start n xs
since_other id start n [] x e = rw e refl
since_other id start n (y ∷ ys) x e = since_other id (if is_step_of id y.event then n + 1 else start) (n + 1) ys x e

-- ---- what an event does

-- the stream stands where it stood
abbrev IsStill : State → State → StreamId → Type 0
IsStill w new id = ((progress_of new id).at ≡ (progress_of w id).at) × ((progress_of new id).done ≡ (progress_of w id).done)

-- nothing is recorded, and no stream goes on
pub record IsQuiet (w new : State) : Type 0 where
  pub log : new.log ≡ w.log
  pub plans : new.plans ≡ w.plans
  pub still : (id : StreamId) → IsStill w new id

-- an event is recorded: a stream whose step it is goes on or makes its end, and each other one stands where it stood
pub record IsLine (w new : State) : Type 0 where
  pub event : Event
  pub answer : Played
  pub log : new.log ≡ logged w event answer
  pub plans : new.plans ≡ w.plans
  pub own : (id : StreamId) → is_step_of id event ≡ true → (is_begun w id ≡ true) × (((progress_of new id).at ≢ (progress_of w id).at) ⊎ ((progress_of new id).done ≡ true))
  pub others : (id : StreamId) → is_step_of id event ≡ false → IsStill w new id

-- a plan starts
pub record IsStart (w new : State) : Type 0 where
  pub plan : PlanModel
  pub state : new ≡ started w plan

-- one of these is so
abbrev pub IsTold : State → State → Type 0
IsTold w new = IsQuiet w new ⊎ (IsLine w new ⊎ IsStart w new)

quiet : (w : State) → IsTold w w
quiet w = inl (record { log = refl; plans = refl; still = λ id. (refl, refl) })

-- a stream makes a step
step_line : (w new : State) (id : StreamId) (y : Progress) (answer : Played) → is_begun w id ≡ true → ((y.at ≢ (progress_of w id).at) ⊎ (y.done ≡ true)) →
    new.log ≡ logged w (event.Step id) answer → new.plans ≡ w.plans → ((j : StreamId) → progress_of new j ≡ set_progress w id y j.plan j.stream) → IsTold w new
step_line w new id y answer b moved log plans progress = inr (inl (record {
  event = event.Step id;
  answer = answer;
  log = log;
  plans = plans;
  own = λ j e. elim (one_stream j id) [
    | inl q ↦
        subst (λ a. (is_begun w a ≡ true) × (((progress_of new a).at ≢ (progress_of w a).at) ⊎ ((progress_of new a).done ≡ true))) (sym q)
        (b, subst (λ (z : Progress). (z.at ≢ (progress_of w id).at) ⊎ (z.done ≡ true)) (sym (progress id ∙ (goes_on w id y).here)) moved)
    | inr d ↦ absurd (let o = other_token id j d in let z : is_token j id ≡ true = e in cc)
  ];
  others = λ j e. elim (one_stream j id) [
    | inl q ↦ absurd (let z : is_token j id ≡ false = e in let o : is_token id id ≡ false = subst (λ a. is_token a id ≡ false) q z in not_other id o)
    | inr d ↦ let p = progress j ∙ (goes_on w id y).others j d in (ap (λ (z : Progress). z.at) p, ap (λ (z : Progress). z.done) p)
  ];
}))
  where
    not_other : (id : StreamId) → is_token id id ≡ false → ⊥
    not_other id e = let a : is_token id id ≡ true = rw (eq-eqb id.plan id.plan refl, eq-eqb id.stream id.stream refl) refl in cc

-- something else is recorded
other_line : (w new : State) (x : Event) (answer : Played) → ((id : StreamId) → is_step_of id x ≡ false) → new.log ≡ logged w x answer → new.plans ≡ w.plans → ((id : StreamId) → IsStill w new id) → IsTold w new
other_line w new x answer none log plans still = inr (inl (record {
  event = x;
  answer = answer;
  log = log;
  plans = plans;
  own = λ id e. absurd (let n = none id in cc);
  others = λ id e. still id;
}))

one_further : (n : ℕ) → n + 1 ≢ n
one_further n e = absurd (omega arith)

put_still : (w : State) (id : StreamId) (y : Progress) → y.at ≡ (progress_of w id).at → y.done ≡ (progress_of w id).done → (j : StreamId) →
    ((set_progress w id y j.plan j.stream).at ≡ (progress_of w j).at) × ((set_progress w id y j.plan j.stream).done ≡ (progress_of w j).done)
put_still w id y a d j = elim (one_stream j id) [
  | inl q ↦ subst (λ k. ((set_progress w id y k.plan k.stream).at ≡ (progress_of w k).at) × ((set_progress w id y k.plan k.stream).done ≡ (progress_of w k).done)) (sym q)
      (ap (λ (z : Progress). z.at) (goes_on w id y).here ∙ a, ap (λ (z : Progress). z.done) (goes_on w id y).here ∙ d)
  | inr n ↦ let p = (goes_on w id y).others j n in (ap (λ (z : Progress). z.at) p, ap (λ (z : Progress). z.done) p)
]

told_by_steps : (w : State) (id : StreamId) (passage : Passage) → OfSteps w id passage (λ o. IsTold w o.1)
told_by_steps w id passage = record {
  idle = λ answer. quiet w;
  refused = λ i x why t e. quiet w;
  at_end = λ b. step_line w _ id (record (progress_of w id) { done = true }) _ b.begun (inr refl) refl refl (λ j. refl);
  publishes = λ i s server b c. step_line w _ id (record (progress_of w id) { at = (progress_of w id).at + 1 }) _ b.begun (inl (one_further (progress_of w id).at)) refl refl (λ j. refl);
  posts = λ q b. step_line w _ id (record (progress_of w id) { at = (progress_of w id).at + 1 }) _ b.begun (inl (one_further (progress_of w id).at)) refl refl (λ j. refl);
  awaits = λ q b e. step_line w _ id (record (progress_of w id) { at = (progress_of w id).at + 1 }) _ b.begun (inl (one_further (progress_of w id).at)) refl refl (λ j. refl);
  lost = λ i x t p. other_line w _ (event.Lose id false) _ (λ j. refl) refl refl (put_still w id _ refl refl);
  through = λ i x effect t a p. step_line w _ id _ _ t.before.begun (inl (one_further (progress_of w id).at)) refl refl (λ j. refl);
  unanswered = λ i x effect t a p. other_line w _ (event.Lose id true) _ (λ j. refl) refl refl (put_still w id _ refl refl);
}

-- what an event does to the log, the plans and the streams' positions
pub told : (w : State) (e : Happening) → IsTold w (happens w e).1
told w e = of_happens w (λ e o. IsTold w o.1) (record {
  idle = λ e answer n. quiet w;
  steps = λ id. told_by_steps w id Through;
  loses = λ id after. told_by_steps w id (if after then LostAfter else LostBefore);
  refills = λ id more f. other_line w _ (event.Refill id more) _ (λ j. refl) refl refl (put_still w id _ refl refl);
  arrives = λ s v f. other_line w _ (event.Arrive s v) _ (λ j. refl) refl refl (λ j. (refl, refl));
  passes_on = λ t o f. other_line w _ (event.PassOn t.place) _ (λ j. refl) refl refl (λ j. (refl, refl));
  approves = λ v f. other_line w _ (event.Approve v) _ (λ j. refl) refl refl (λ j. (refl, refl));
  restarts = λ v f. other_line w _ (event.Done v) _ (λ j. refl) refl refl (λ j. (refl, refl));
  starts = λ plan h f g. inr (inr (record { plan = plan; state = refl }));
}) e

-- ---- numbers

-- the log and the starts tell when each running stream came to its position, and the log has no step of a stream that was not begun
pub record IsLogged (base : ℕ) (w : State) (since : StreamId → ℕ) : Type 0 where
  pub running : (id : StreamId) → is_running w id ≡ true → since id ≡ base + since_of w id
  pub unbegun : (id : StreamId) → is_begun w id ≡ false → (start n : ℕ) → since_in id start n w.log ≡ start

-- the same plans have the same streams
pub begun_by : (w new : State) → new.plans ≡ w.plans → (id : StreamId) → is_begun new id ≡ is_begun w id
begun_by w new plans id = ap (λ (pl : List Start). let u : State = record w { plans = pl } in is_begun u id) plans

start_of : State → StreamId → ℕ
start_of w id = (slice_index_or w.plans id.plan no_start).since

module _ (n : Net) (h : IsLogged n.base n.w n.since) where
  after_still : (new : State) (id : StreamId) → is_begun n.w id ≡ true → (progress_of new id).at ≡ (progress_of n.w id).at → since_after n new id ≡ n.since id
  after_still new id b e = rw (b, eq-eqb (progress_of new id).at (progress_of n.w id).at e) refl

  after_moved : (new : State) (id : StreamId) → (progress_of new id).at ≢ (progress_of n.w id).at → since_after n new id ≡ n.base + length new.log
  after_moved new id d = go (is_begun n.w id)
    where
      go : (b : Bool) → (if b && ((progress_of new id).at == (progress_of n.w id).at) then n.since id else n.base + length new.log) ≡ n.base + length new.log
      go true = rw (ne_eqb (progress_of new id).at (progress_of n.w id).at d) refl
      go false = refl

  after_unbegun : (new : State) (id : StreamId) → is_begun n.w id ≡ false → since_after n new id ≡ n.base + length new.log
  after_unbegun new id b = rw b refl

  runs_before : (new : State) (id : StreamId) → is_begun n.w id ≡ true → (progress_of new id).done ≡ (progress_of n.w id).done → is_running new id ≡ true → is_running n.w id ≡ true
  runs_before new id b d r = and_from (is_begun n.w id) (not (progress_of n.w id).done) b (ap not (sym d) ∙ (and_parts (is_begun new id) (not (progress_of new id).done) r).1)

  logged_quiet : (new : State) → IsQuiet n.w new → IsLogged n.base new (since_after n new)
  logged_quiet new q = record {
    running = λ id r.
        let b = sym (begun_by n.w new q.plans id) ∙ (and_parts (is_begun new id) (not (progress_of new id).done) r).0 in
        let s = q.still id in
        after_still new id b s.0 ∙ h.running id (runs_before new id b s.1 r)
        ∙ ap (λ m. n.base + m) (sym (ap (λ (pl : List Start). since_in id (slice_index_or pl id.plan no_start).since 0 new.log) q.plans ∙ ap (since_in id (slice_index_or n.w.plans id.plan no_start).since 0) q.log));
    unbegun = λ id b start k. ap (since_in id start k) q.log ∙ h.unbegun id (sym (begun_by n.w new q.plans id) ∙ b) start k;
  }

  logged_line : (new : State) → IsLine n.w new → IsLogged n.base new (since_after n new)
  logged_line new q = record {
    running = λ id r.
        let p = and_parts (is_begun new id) (not (progress_of new id).done) r in
        let b = sym (begun_by n.w new q.plans id) ∙ p.0 in
        let start = (slice_index_or n.w.plans id.plan no_start).since in
        let there : since_of new id ≡ since_in id start 0 (logged n.w q.event q.answer) =
        ap (λ (pl : List Start). since_in id (slice_index_or pl id.plan no_start).since 0 new.log) q.plans ∙ ap (since_in id start 0) q.log in
        elim (cases_Bool (is_step_of id q.event)) [
          | inl e ↦ elim (q.own id e).1 [
            | inl d ↦
                let a = after_moved new id d in
                let c = since_step id start 0 n.w.log (record { event = q.event; answer = q.answer }) e in
                let l : length new.log ≡ length n.w.log + 1 = ap length q.log ∙ length_logged n.w q.event q.answer in
                omega arith
            | inr d ↦ absurd (let z = not-true (progress_of new id).done p.1 in cc)
          ]
          | inr e ↦
              let s = q.others id e in
              after_still new id b s.0 ∙ h.running id (runs_before new id b s.1 r) ∙ ap (λ m. n.base + m) (sym (there ∙ since_other id start 0 n.w.log (record { event = q.event; answer = q.answer }) e))
        ];
    unbegun = λ id b start k.
        let c = sym (begun_by n.w new q.plans id) ∙ b in
        ap (since_in id start k) q.log ∙ elim (cases_Bool (is_step_of id q.event)) [
          | inl e ↦ absurd (let z = (q.own id e).0 in cc)
          | inr e ↦ since_other id start k n.w.log (record { event = q.event; answer = q.answer }) e ∙ h.unbegun id c start k
        ];
  }

  module _ (plan : PlanModel) where
    abbrev with_plan : State
    with_plan = started n.w plan

    -- a stream that was begun just now is one of the new plan
    of_new : (id : StreamId) → is_begun with_plan id ≡ true → is_begun n.w id ≡ false → id.plan ≡ length n.w.plans
    of_new id b c =
        let p = begun_parts with_plan id b in
        let k = count_started n.w plan in
        elim (cases_lt id.plan (length n.w.plans)) [
          | inr l ↦ (let z = p.0 in omega arith)
          | inl l ↦ absurd (
              let s : stream_count with_plan id.plan ≡ stream_count n.w id.plan = ap (λ (x : PlanModel). length x.streams) (plan_before n.w plan id.plan l) in
              let z = p.1 in
              let d = and_from (nat_lt id.plan (length n.w.plans)) (nat_lt id.stream (stream_count n.w id.plan)) (lt-ltb id.plan (length n.w.plans) l) (lt-ltb id.stream (stream_count n.w id.plan) (omega arith)) in
              cc
              )
        ]

    logged_start : IsLogged n.base with_plan (since_after n with_plan)
    logged_start = record {
      running = λ id r.
          let p = and_parts (is_begun with_plan id) (not (progress_of n.w id).done) r in
          elim (cases_Bool (is_begun n.w id)) [
            | inl b ↦
                let l = (begun_parts n.w id b).0 in
                after_still with_plan id b refl ∙ h.running id (and_from (is_begun n.w id) (not (progress_of n.w id).done) b p.1)
                ∙ ap (λ m. n.base + m) (sym (ap (λ (x : Start). since_in id x.since 0 n.w.log) (get_or_append_left n.w.plans (record { plan = plan; since = length n.w.log } ∷ []) no_start id.plan l)))
            | inr b ↦
                let new = of_new id p.0 b in
                let own : Start = record { plan = plan; since = length n.w.log } in
                after_unbegun with_plan id b
                ∙ ap (λ m. n.base + m) (sym (h.unbegun id b (slice_index_or (n.w.plans ++ own ∷ []) id.plan no_start).since 0
                ∙ ap (λ k. (slice_index_or (n.w.plans ++ own ∷ []) k no_start).since) new
                ∙ ap (λ (x : Start). x.since) (get_or-append_seam n.w.plans own [] no_start)))
          ];
      unbegun = λ id b start k. h.unbegun id (elim (cases_Bool (is_begun n.w id)) [ inl c ↦ absurd (let z = begun_stays n.w plan id c in cc) | inr c ↦ c ]) start k;
    }

  logged_next : (new : State) → IsTold n.w new → IsLogged n.base new (since_after n new)
  logged_next new (inl q) = logged_quiet new q
  logged_next new (inr (inl q)) = logged_line new q
  logged_next new (inr (inr q)) = subst (λ (u : State). IsLogged n.base u (since_after n u)) (sym q.state) (logged_start q.plan)

-- ---- every event

-- the traces of since are what the log says
abbrev pub AreLogged : Net → Type 0
AreLogged n = IsLogged n.base n.w n.since

-- so it stays at each event
pub comes_logged : (n : Net) (e : NetEvent) → AreLogged n → AreLogged (comes n e).1
comes_logged n (Control e) h = go (is_own n.w e)
  where
    go : (b : Bool) → AreLogged (if b then controlled n (happens n.w e) n.had else (Quiet, n)).1
    go true = logged_next n h (happens n.w e).1 (told n.w e)
    go false = h
comes_logged n (Send id) h = h
comes_logged n (Deliver k) h = go (slice_get n.sent k)
  where
    go : (o : Option Order) → AreLogged (at_place n delivered o).1
    go None = h
    go (Some o) =
        let d = is_delivered n o in
        subst (λ b. IsLogged b (delivered n o).1.w (delivered n o).1.since) (sym d.base)
        (subst (λ (w : State). IsLogged n.base w (delivered n o).1.since) (sym d.w) (subst (IsLogged n.base n.w) (sym d.since) h))
comes_logged n (Answer k) h = go (slice_get n.answers k)
  where
    by_answer : (o : Order) (b : Bool) → AreLogged (if b then controlled n (happens n.w (Step o.stream)) (without o.stream n.had) else (Quiet, n)).1
    by_answer o true = logged_next n h (happens n.w (Step o.stream)).1 (told n.w (Step o.stream))
    by_answer o false = h

    go : (o : Option Order) → AreLogged (at_place n answer_taken o).1
    go None = h
    go (Some o) = by_answer o (is_awaited n o)
comes_logged n (Ask s u) h = h
comes_logged n (Pass k) h = go (slice_get n.passes k)
  where
    go : (o : Option Ticket) → AreLogged (passed n o).1
    go None = h
    go (Some t) = h

pub run_logged : (es : List NetEvent) (n : Net) → AreLogged n → AreLogged (net_run es n)
run_logged [] n h = h
run_logged (e ∷ es) n h = run_logged es (comes n e).1 (comes_logged n e h)

-- no stream runs in a record that was just opened
pub none_runs : (c : Sizes) (p : Place) (room : ℕ) (id : StreamId) → is_running (opened c p room) id ≡ true → ⊥
none_runs c p room id e =
    let b = begun_parts (opened c p room) id (and_parts (is_begun (opened c p room) id) (not (progress_of (opened c p room) id).done) e).0 in
    let l : id.plan < 0 = b.0 in
    absurd (omega arith)

-- an opening is logged
pub start_logged : (setup : Setup) (n : Net) → IsNetOpening setup n → AreLogged n
start_logged setup n o = record {
  running = λ id e. absurd (none_runs (sizes_of setup) o.place o.room id (ap (λ (w : State). is_running w id) (sym o.w) ∙ e));
  unbegun = λ id e start k. ap (λ (w : State). since_in id start k w.log) o.w;
}

-- so it is wherever events lead
pub net_logged : (setup : Setup) (n : Net) → IsNetReached setup n → AreLogged n
net_logged setup n r = subst AreLogged (sym r.state) (run_logged r.events r.start (start_logged setup r.start r.opening))
