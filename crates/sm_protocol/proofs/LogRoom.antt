-- The log keeps within its room, tries within their allowance, and who is down at once within the limit.
use Rattle.sm_protocol.proofs.Below.{◌≡◌, ◌≢◌, ℕ, suc, ◌+◌, ◌<◌, ◌≤◌, true, false, not, refl, sym, ap, ◌∙◌, inl, inr, subst, arith, ◌⊎◌, Some, Result, Ok, Err, List, [], ◌∷◌, length, length-append, ◌==◌, nat_lt, if◌then◌else◌, slice_get, slice_index_or, count_by, and_parts, and_from, and_left, eqb-false, ltb-true, ltb-false, not-true, cases_lt, cases_Bool, lt-ltb, le-ltb, get_or_append_left, get_or-append_seam, Refusal, sum_below, count_below, Setup, Sizes, sizes_of, Place, CallEffect, called_numbered, numbered_answer_at, down_count, set_down, publish, StreamId, ServerCall, Instr, Signal, Wait, is_call, StreamModel, PlanModel, no_stream, Entry, Served, Call, same_sum, sum_of_both, KeepsBudget, total_budget, sum_by-below, granted, count_put, count_put_down, sum_below_le}
use Rattle.sm_protocol.proofs.Words.{Event, Passage, Through, LostBefore, LostAfter, Played, State, Mark, Progress, Start, no_start, fresh, opened, plan_at, stream_count, stream_parts, progress_of, stream_id, is_begun, allowance, set_progress, logged, places_left, places_of, set_aside, free_places, is_no_call, pool, behind_call, ahead_of_call, tried_more, call_number, Happening, engaged, started, happens, IsOpening, IsReached, FitsConfig}
use Rattle.sm_protocol.specs.declared.event.Event.TheVariants as event
use Rattle.sm_protocol.specs.declared.event.Played.TheVariants as played
use Rattle.sm_protocol.proofs.Cases.{IsTry, OfSteps, of_happens, all_fit, answer_to, refill_granted}
use Rattle.sm_protocol.proofs.Reached.{by_events}
use Rattle.sm_protocol.proofs.Places.{each_after, streams_left, left_after, no_calls_from, left_unless_done, past_no_call, past_call}

-- The log has its places, used and set aside. Each stream's tries are within its allowance, nothing has happened to streams
-- that were not begun, the plans begun keep their budgets, and no more servers are down than the limit.
pub record HasRoom (w : State) : Type 0 where
  pub room : length w.log + set_aside w ≤ w.room
  pub tries : (k i : ℕ) → (w.progress k i).tries ≤ allowance w (stream_id k i)
  pub unbegun : (k i : ℕ) → is_begun w (stream_id k i) ≡ false → w.progress k i ≡ fresh
  pub budgets : (k : ℕ) → k < length w.plans → KeepsBudget (plan_at w k)
  pub cap : down_count w.sizes w.place ≤ w.place.limit

-- ---- what was begun

-- the plan of a stream that was begun was begun, and the stream is one of its streams
pub begun_parts : (w : State) (id : StreamId) → is_begun w id ≡ true → (id.plan < length w.plans) × (id.stream < stream_count w id.plan)
begun_parts w id e =
    let a = and_parts (nat_lt id.plan (length w.plans)) (nat_lt id.stream (stream_count w id.plan)) e in
    (ltb-true id.plan (length w.plans) a.0, ltb-true id.stream (stream_count w id.plan) a.1)

-- ---- a stream goes on

-- a log with one more event is one longer
pub length_logged : (w : State) (x : Event) (a : Played) → length (logged w x a) ≡ length w.log + 1
length_logged w x a = length-append w.log (record { event = x; answer = a } ∷ [])

-- A stream stands otherwise, and an event is recorded: it takes a place less, and its tries are within its allowance.
pub went_on : (w : State) (id : StreamId) (x : Progress) (p : Place) (entries : List (ℕ × Entry)) (numbers : ℕ → ℕ) (n : ℕ) (marks : ℕ → ℕ → Mark) (event : Event) (answer : Played) →
    HasRoom w → is_begun w id ≡ true → p.limit ≡ w.place.limit → p.down ≡ w.place.down → x.tries ≤ (stream_parts w id).budget + (stream_parts w id).retries + x.refills →
    places_left (stream_parts w id) x + 1 ≤ places_left (stream_parts w id) (progress_of w id) →
    HasRoom (record w { place = p; entries = entries; numbers = numbers; next_number = n; marks = marks; progress = set_progress w id x; log = logged w event answer })
went_on w id x p entries numbers n marks event answer h b limit down tries less =
    let begun = begun_parts w id b in
    let before = places_left (stream_parts w id) (progress_of w id) in
    let after = places_left (stream_parts w id) x in
    let sum = left_after w id x before after begun.0 begun.1 (omega arith) in
    let log = length_logged w event answer in
    let downs : down_count w.sizes p ≡ down_count w.sizes w.place = ap (count_below w.sizes.servers) down in
    let room = h.room in
    record {
      room = omega arith;
      tries = each_after w.progress id x (λ k i y. y.tries ≤ (stream_parts w (stream_id k i)).budget + (stream_parts w (stream_id k i)).retries + y.refills) h.tries tries;
      unbegun = each_after w.progress id x (λ k i y. is_begun w (stream_id k i) ≡ false → y ≡ fresh) h.unbegun (λ f. absurd (cc));
      budgets = h.budgets;
      cap = let c = h.cap in omega arith;
    }

-- of two answers that are one, the effects are one
pub ok_is : (x y : CallEffect) → ◌≡◌ {A = Result CallEffect Refusal} (Ok x) (Ok y) → x ≡ y
ok_is x y e = cc

-- a call changes neither who is down nor the limit nor an entry of the published map
pub record IsOfCall (p : Place) (effect : CallEffect) : Type 0 where
  pub limit : effect.place.limit ≡ p.limit
  pub down : effect.place.down ≡ p.down
  pub listed : effect.place.listed ≡ p.listed
  pub version : effect.place.version ≡ p.version

-- so it is of each numbered call that is served
pub of_call : (c : Sizes) (p : Place) (s v : ℕ) (call : Call) (number : ℕ) (effect : CallEffect) → called_numbered c p s v call number ≡ Ok effect → IsOfCall p effect
of_call c p s v call number effect e = go (numbered_answer_at c p s v call number) refl
  where
    go : (r : Result Served Refusal) → numbered_answer_at c p s v call number ≡ r → IsOfCall p effect
    go (Err why) f = absurd (let g = rw f at e in cc)
    go (Ok x) f =
        let g = ok_is _ effect (rw f at e) in
        record {
          limit = sym (ap (λ (y : CallEffect). y.place.limit) g);
          down = sym (ap (λ (y : CallEffect). y.place.down) g);
          listed = sym (ap (λ (y : CallEffect). y.place.listed) g);
          version = sym (ap (λ (y : CallEffect). y.place.version) g);
        }

-- ---- each kind of step

end_less : (stream : StreamModel) (x : Progress) → x.done ≡ false → places_left stream (record x { done = true }) + 1 ≤ places_left stream x
end_less stream x e = let a = left_unless_done stream x e in omega arith

no_call_less : (stream : StreamModel) (x : Progress) (i : Instr) → x.done ≡ false → slice_get stream.code x.at ≡ Some i → is_call i ≡ false →
    places_left stream (record x { at = x.at + 1 }) + 1 ≤ places_left stream x
no_call_less stream x i e g n =
    let a = left_unless_done stream x e in
    let b = left_unless_done stream (record x { at = x.at + 1 }) e in
    let d = past_no_call stream x.at i g (ap not n) in
    omega arith

call_less : (stream : StreamModel) (x y : Progress) (i : Instr) → x.done ≡ false → y.done ≡ false → slice_get stream.code x.at ≡ Some i → is_call i ≡ true →
    (y.at ≡ x.at) ⊎ (y.at ≡ x.at + 1) → y.refills ≡ x.refills → y.tries ≡ x.tries + 1 → x.tries ≤ stream.budget + stream.retries + x.refills →
    x.tries ≢ stream.budget + stream.retries + x.refills → places_left stream y + 1 ≤ places_left stream x
call_less stream x y i e f g n at refills tries within spare =
    let a = left_unless_done stream x e in
    let b = left_unless_done stream y f in
    let d = past_call stream x.at i g (ap not n) in
    let h : no_calls_from stream y.at ≡ no_calls_from stream x.at = elim at [ inl q ↦ ap (no_calls_from stream) q | inr q ↦ ap (no_calls_from stream) q ∙ sym d ] in
    omega arith

room_by_steps : (w : State) (id : StreamId) (passage : Passage) → HasRoom w → OfSteps w id passage (λ o. HasRoom o.1)
room_by_steps w id passage h = record {
  idle = λ answer. h;
  refused = λ i x why t e. h;
  at_end = λ b. went_on w id (record now { done = true }) w.place w.entries w.numbers w.next_number w.marks (event.Step id) played.Done h b.begun refl refl (h.tries id.plan id.stream) (end_less (stream_parts w id) now b.running);
  publishes = λ i s server b c. went_on w id (record now { at = now.at + 1 }) (publish w.place s server) _ w.numbers w.next_number w.marks (event.Step id) played.Moved h b.begun refl refl (h.tries id.plan id.stream)
      (no_call_less (stream_parts w id) now i b.running b.next_is c);
  posts = λ q b. went_on w id (record now { at = now.at + 1 }) w.place w.entries w.numbers w.next_number _ (event.Step id) played.Moved h b.begun refl refl (h.tries id.plan id.stream)
      (no_call_less (stream_parts w id) now (Signal q) b.running b.next_is refl);
  awaits = λ q b e. went_on w id (record now { at = now.at + 1 }) w.place w.entries w.numbers w.next_number _ (event.Step id) played.Moved h b.begun refl refl (h.tries id.plan id.stream)
      (no_call_less (stream_parts w id) now (Wait q) b.running b.next_is refl);
  lost = λ i x t p. went_on w id (record (tried_more now false) { pending = call_number w now }) w.place w.entries w.numbers _ w.marks (event.Lose id false) played.Lost h t.before.begun refl refl (more i x t)
      (less i x t (record (tried_more now false) { pending = call_number w now }) t.before.running (inl refl) refl refl);
  through = λ i x effect t a p. went_on w id (behind_call now effect.fresh) effect.place w.entries _ _ w.marks (event.Step id) played.Moved h t.before.begun (same x effect a).limit (same x effect a).down (more i x t)
      (less i x t (behind_call now effect.fresh) t.before.running (inr refl) refl refl);
  unanswered = λ i x effect t a p. went_on w id (ahead_of_call w now effect.fresh) effect.place w.entries _ _ w.marks (event.Lose id true) played.Lost h t.before.begun (same x effect a).limit (same x effect a).down (more i x t)
      (less i x t (ahead_of_call w now effect.fresh) t.before.running (inl refl) refl refl);
}
  where
    now : Progress
    now = progress_of w id

    spare : (i : Instr) (x : ServerCall) → IsTry w id i x → now.tries ≢ allowance w id
    spare i x t = eqb-false now.tries (allowance w id) t.unspent

    more : (i : Instr) (x : ServerCall) → IsTry w id i x → now.tries + 1 ≤ allowance w id
    more i x t = let a = spare i x t in let b : now.tries ≤ allowance w id = h.tries id.plan id.stream in omega arith

    less : (i : Instr) (x : ServerCall) → IsTry w id i x → (y : Progress) → y.done ≡ false → (y.at ≡ now.at) ⊎ (y.at ≡ now.at + 1) → y.refills ≡ now.refills → y.tries ≡ now.tries + 1 →
        places_left (stream_parts w id) y + 1 ≤ places_left (stream_parts w id) now
    less i x t y e at refills tries = call_less (stream_parts w id) now y i t.before.running e t.before.next_is t.call at refills tries (h.tries id.plan id.stream) (spare i x t)

    same : (x : ServerCall) (effect : CallEffect) → answer_to w id x ≡ Ok effect → IsOfCall w.place effect
    same x effect a = of_call w.sizes w.place x.shard x.server x.call (call_number w now) effect a

-- ---- other events

free_is : (w : State) (n : ℕ) → HasRoom w → n ≤ free_places w → length w.log + set_aside w + n ≤ w.room
free_is w n h l = let a = h.room in omega arith

-- an event is recorded where a place is free
recorded_keeps : (w : State) (event : Event) (answer : Played) → HasRoom w → 1 ≤ free_places w → HasRoom (record w { log = logged w event answer })
recorded_keeps w event answer h l =
    let a = free_is w 1 h l in
    let b = length_logged w event answer in
    record { room = omega arith; tries = h.tries; unbegun = h.unbegun; budgets = h.budgets; cap = h.cap }

-- an allowance is raised where the places are free
refill_keeps : (w : State) (id : StreamId) (more : ℕ) (event : Event) (answer : Played) → HasRoom w → is_begun w id ≡ true → (progress_of w id).done ≡ false → more + 1 ≤ free_places w →
    HasRoom (record w { progress = set_progress w id (record (progress_of w id) { refills = (progress_of w id).refills + more }); log = logged w event answer })
refill_keeps w id more event answer h b d l =
    let now = progress_of w id in
    let x : Progress = record now { refills = now.refills + more } in
    let begun = begun_parts w id b in
    let tries = h.tries id.plan id.stream in
    let p = left_unless_done (stream_parts w id) now d in
    let q = left_unless_done (stream_parts w id) x d in
    let sum = left_after w id x 0 more begun.0 begun.1 (omega arith) in
    let a = free_is w (more + 1) h l in
    let log = length_logged w event answer in
    record {
      room = omega arith;
      tries = each_after w.progress id x (λ k i y. y.tries ≤ (stream_parts w (stream_id k i)).budget + (stream_parts w (stream_id k i)).retries + y.refills) h.tries (omega arith);
      unbegun = each_after w.progress id x (λ k i y. is_begun w (stream_id k i) ≡ false → y ≡ fresh) h.unbegun (λ f. absurd (cc));
      budgets = h.budgets;
      cap = h.cap;
    }

approve_keeps : (w : State) (v : ℕ) (event : Event) (answer : Played) → HasRoom w → 2 ≤ free_places w → down_count w.sizes w.place < w.place.limit → HasRoom (record w { place = set_down w.place v true; log = logged w event answer })
approve_keeps w v event answer h l cap =
    let a = free_is w 2 h l in
    let b = length_logged w event answer in
    let d = count_put w.sizes.servers w.place.down v true in
    record { room = omega arith; tries = h.tries; unbegun = h.unbegun; budgets = h.budgets; cap = omega arith }

restart_keeps : (w : State) (v : ℕ) (event : Event) (answer : Played) → HasRoom w → v < w.sizes.servers → w.place.down v ≡ true →
    HasRoom (record w { place = set_down w.place v false; log = logged w event answer })
restart_keeps w v event answer h l e =
    let b = length_logged w event answer in
    let d = count_put_down w.sizes.servers w.place.down v l e in
    let r = h.room in
    record { room = omega arith; tries = h.tries; unbegun = h.unbegun; budgets = h.budgets; cap = let c = h.cap in omega arith }

-- ---- a start

-- the plans begun before stand where they stood
pub plan_before : (w : State) (plan : PlanModel) (k : ℕ) → k < length w.plans → plan_at (started w plan) k ≡ plan_at w k
plan_before w plan k l = ap (λ (x : Start). x.plan) (get_or_append_left w.plans (record { plan = plan; since = length w.log } ∷ []) no_start k l)

-- and the plan that starts stands behind them
pub plan_started : (w : State) (plan : PlanModel) → plan_at (started w plan) (length w.plans) ≡ plan
plan_started w plan = ap (λ (x : Start). x.plan) (get_or-append_seam w.plans (record { plan = plan; since = length w.log }) [] no_start)

-- with a start there is one plan more
pub count_started : (w : State) (plan : PlanModel) → length (started w plan).plans ≡ suc (length w.plans)
count_started w plan = let a = length-append w.plans (record { plan = plan; since = length w.log } ∷ []) in omega arith

-- what was begun stays begun
pub begun_stays : (w : State) (plan : PlanModel) (id : StreamId) → is_begun w id ≡ true → is_begun (started w plan) id ≡ true
begun_stays w plan id b =
    let a = begun_parts w id b in
    let n = count_started w plan in
    let c : length (plan_at (started w plan) id.plan).streams ≡ length (plan_at w id.plan).streams = ap (λ (x : PlanModel). length x.streams) (plan_before w plan id.plan a.0) in
    let s = a.1 in
    and_from _ _ (lt-ltb id.plan (length (started w plan).plans) (omega arith)) (lt-ltb id.stream (stream_count (started w plan) id.plan) (omega arith))

not_begun : (w : State) (i : ℕ) → is_begun w (stream_id (length w.plans) i) ≡ false
not_begun w i = and_left (nat_lt (length w.plans) (length w.plans)) _ (le-ltb (length w.plans) (length w.plans) (omega arith))

-- the places that a plan's fresh streams take
fresh_places : (stream : StreamModel) → places_left stream fresh ≡ stream.budget + stream.retries + count_by is_no_call stream.code + 1
fresh_places stream = omega arith

plan_places : (plan : PlanModel) (f : ℕ → Progress) → ((i : ℕ) → f i ≡ fresh) → sum_below (length plan.streams) (λ i. places_left (slice_index_or plan.streams i no_stream) (f i)) ≡ places_of plan
plan_places plan f all =
    same_sum (length plan.streams) _ _ (λ i l. ap (places_left (slice_index_or plan.streams i no_stream)) (all i) ∙ fresh_places (slice_index_or plan.streams i no_stream))
    ∙ sym (sum_by-below (λ (stream : StreamModel). stream.budget + stream.retries + count_by is_no_call stream.code + 1) plan.streams no_stream)

-- a start leaves to all streams together the places of its plan more
pub left_started : (w : State) (plan : PlanModel) → HasRoom w → streams_left (started w plan) w.progress ≡ streams_left w w.progress + places_of plan
left_started w plan h =
    let of_plan : PlanModel → ℕ → ℕ = λ pl k. sum_below (length pl.streams) (λ i. places_left (slice_index_or pl.streams i no_stream) (w.progress k i)) in
    let last : of_plan (plan_at (started w plan) (length w.plans)) (length w.plans) ≡ places_of plan =
    ap (λ pl. of_plan pl (length w.plans)) (plan_started w plan) ∙ plan_places plan (w.progress (length w.plans)) (λ i. h.unbegun (length w.plans) i (not_begun w i)) in
    let before : sum_below (length w.plans) (λ k. of_plan (plan_at (started w plan) k) k) ≡ streams_left w w.progress =
    same_sum (length w.plans) _ _ (λ k l. ap (λ pl. of_plan pl k) (plan_before w plan k l)) in
    ap (λ n. sum_below n (λ k. of_plan (plan_at (started w plan) k) k)) (count_started w plan)
    ∙ (ap (λ a. a + of_plan (plan_at (started w plan) (length w.plans)) (length w.plans)) before ∙ ap (λ b. streams_left w w.progress + b) last)

start_keeps : (w : State) (plan : PlanModel) → HasRoom w → KeepsBudget plan → places_of plan ≤ free_places w → HasRoom (started w plan)
start_keeps w plan h keeps l = record {
  room = let a = left_started w plan h in let b = free_is w (places_of plan) h l in omega arith;
  tries = λ k i. elim (cases_Bool (is_begun w (stream_id k i))) [
    | inl b ↦
        subst (λ pl. (w.progress k i).tries ≤ (slice_index_or pl.streams i no_stream).budget + (slice_index_or pl.streams i no_stream).retries + (w.progress k i).refills)
        (sym (plan_before w plan k (begun_parts w (stream_id k i) b).0)) (h.tries k i)
    | inr b ↦ let e : (w.progress k i).tries ≡ 0 = ap (λ (x : Progress). x.tries) (h.unbegun k i b) in omega arith
  ];
  unbegun = λ k i b. elim (cases_Bool (is_begun w (stream_id k i))) [
    | inl c ↦ absurd (let d = begun_stays w plan (stream_id k i) c in cc)
    | inr c ↦ h.unbegun k i c
  ];
  budgets = λ k m. elim (cases_lt k (length w.plans)) [
    | inl l ↦ subst KeepsBudget (sym (plan_before w plan k l)) (h.budgets k l)
    | inr l ↦
        let n = count_started w plan in
        let e : length w.plans ≡ k = omega arith in
        subst (λ j. KeepsBudget (plan_at (started w plan) j)) e (subst KeepsBudget (sym (plan_started w plan)) keeps)
  ];
  cap = h.cap;
}

-- ---- all events

pub room_kept : (w : State) (e : Happening) → FitsConfig w.sizes e → HasRoom w → HasRoom (happens w e).1
room_kept w e fits h = of_happens w (λ e o. FitsConfig w.sizes e → HasRoom o.1) (record {
  idle = λ e answer n f. h;
  steps = λ id. all_fit (λ o. HasRoom o.1) (room_by_steps w id Through h);
  loses = λ id after. all_fit (λ o. HasRoom o.1) (room_by_steps w id (if after then LostAfter else LostBefore) h);
  refills = λ id more n f.
      let a = refill_granted w id more n in
      let running = and_parts (is_begun w id) _ a.0 in
      refill_keeps w id more (event.Refill id more) played.Refilled h running.0 (not-true (progress_of w id).done running.1) (ltb-false (free_places w) (more + 1) a.1);
  arrives = λ s v n f. recorded_keeps w _ _ h (some_free n);
  passes_on = λ t o n f. recorded_keeps w _ _ h (some_free n);
  approves = λ v n f. let g = granted w.sizes w.place (pool w) (engaged w v) (free_places w) v n in approve_keeps w v (event.Approve v) played.Approved h g.places g.cap;
  restarts = λ v n f. restart_keeps w v (event.Done v) played.Up h f n;
  starts = λ plan n l m f. start_keeps w plan h f.sound.budget (ltb-false (free_places w) (places_of plan) l);
}) e fits
  where
    some_free : (free_places w == 0) ≡ false → 1 ≤ free_places w
    some_free n = let a = eqb-false (free_places w) 0 n in omega arith

pub room_at_opening : (setup : Setup) (p : Place) (room : ℕ) → IsOpening setup p room → HasRoom (opened (sizes_of setup) p room)
room_at_opening setup p room o = record {
  room = let l = o.least in omega arith;
  tries = λ k i. omega arith;
  unbegun = λ k i b. refl;
  budgets = λ k l. absurd (omega arith);
  cap = o.settled.down;
}

-- the log and the places set aside are within the log's room
pub has_room : (setup : Setup) (w : State) → IsReached setup w → HasRoom w
has_room setup w reached =
    let h = by_events setup HasRoom (room_at_opening setup) (λ u e at f v. room_kept u e f v) w reached in
    record { room = h.room; tries = h.tries; unbegun = h.unbegun; budgets = h.budgets; cap = h.cap }

-- the tries of all streams of a plan are within the plan's budget and the refills
pub plan_tries : (w : State) → HasRoom w → (k : ℕ) → k < length w.plans →
    sum_below (stream_count w k) (λ i. (w.progress k i).tries) ≤ (plan_at w k).budget + sum_below (stream_count w k) (λ i. (w.progress k i).refills)
plan_tries w h k l =
    let plan = plan_at w k in
    let of_stream : StreamModel → ℕ = λ stream. stream.budget + stream.retries in
    let a = sum_of_both (stream_count w k) (λ i. of_stream (stream_parts w (stream_id k i))) (λ i. (w.progress k i).refills) in
    let b = sum_by-below of_stream plan.streams no_stream in
    let keeps : total_budget plan ≤ plan.budget = h.budgets k l in
    let d = sum_below_le (stream_count w k) (λ i. (w.progress k i).tries) (λ i. of_stream (stream_parts w (stream_id k i)) + (w.progress k i).refills) (λ i. h.tries k i) in
    omega arith
