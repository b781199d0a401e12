-- A step of a stream frees no stream of another plan, and no other stream unless it posts a signal. So the next free stream is looked for
-- where it can be.
use Rattle.std.proofs.Common.{◌≡◌, ◌≢◌, ◌≤◌, ◌<◌, ◌∙◌, ◌+◌, ℕ, zero, suc, Bool, true, false, not, Option, Some, None, List, length, refl, sym, ap, subst, inl, inr, arith}
use Rattle.std.specs.Prelude.{◌&&◌, ◌||◌, is_none, is_some, nat_lt, slice_get, slice_index_or, if◌then◌else◌}
use Rattle.std.proofs.lemmas.Bool.{and_parts, cases_eq, false_from_ne_true, lt-ltb}
use Rattle.sm_reservation.specs.declared.stream_id.StreamId.{StreamId}
use Rattle.sm_placement.specs.Sums.{first_from, put2}
use Rattle.sm_placement.proofs.Searches.{cases_Option, first_from_none}
use Rattle.sm_placement.proofs.Sums.{put2-apart}
use Rattle.sm_plan_code.specs.declared.instruction.Instr.{Instr}
use Rattle.sm_plan_code.specs.declared.instruction.Instr.TheVariants as instr
use Rattle.sm_plan_code.specs.Plan.{PlanModel, places_of}
use Rattle.sm_verifier.specs.declared.admission.Holding.{Holding}
use Rattle.sm_verifier.specs.FirstHolding.{first_holding}
use Rattle.sm_protocol.specs.declared.event.BeginFault.TheVariants as fault
use Rattle.sm_protocol.specs.declared.event.Passage.TheVariants as passage
use Rattle.sm_protocol.specs.declared.event.Played.TheVariants as played
use Rattle.sm_protocol.specs.State.{Mark, Progress, Start, State, free_places, is_begun, is_running, next_instruction, no_start, no_stream, plan_at, pool, progress_of, stream_count, stream_id}
use Rattle.sm_protocol.specs.Steps.{Answered, Outcome, unchanged}
use Rattle.sm_protocol.specs.Next.{call_under, entry_by, unposted}
use Rattle.sm_protocol.specs.Happens.{Begin, Step, begun, happens, has_all_plans, started}
use Rattle.sm_protocol.proofs.Cases.{of_known_step}
use Rattle.sm_protocol.proofs.LogRoom.{begun_parts, plan_before}
use Rattle.sm_protocol.proofs.Starts.{length_push}
use Rattle.laws_network.proofs.Overlay.{put2-at, put2-other}
use Rattle.sm_driver.specs.Advance.{IsFreeAlone, IsFreeIn, is_free, posts_signal, next_free}
use Rattle.sm_driver.specs.Orders.{awaits}
use Rattle.sm_driver.proofs.Searches.{free_at, free_of, next_is_free, none_from, step_none, step_some}

-- ---- free streams by their instructions

-- a stream of the plan that stands before the instruction is local
abbrev pub goes : State → ℕ → Option Instr → Bool
goes w k None = true
goes w k (Some (instr.Signal q)) = true
goes w k (Some (instr.Wait q)) = (w.marks k q).posted
goes w k (Some (instr.Publish s)) = false
goes w k (Some (instr.Unlist s)) = false
goes w k (Some (instr.PrepareAdd s v u)) = false
goes w k (Some (instr.PrepareDrop s u v)) = false
goes w k (Some (instr.Add s v role)) = false
goes w k (Some (instr.Drop s v)) = false
goes w k (Some (instr.Change s v role)) = false

free_by : (w : State) (k : ℕ) (r : Bool) (o : Option Instr) → let b = if r then o else None in
    (((r && is_none (call_under w.numbers b)) && is_none (entry_by w b)) && is_none (unposted w k b)) ≡ (r && goes w k o)
free_by w k false o = refl
free_by w k true None = refl
free_by w k true (Some (instr.Signal q)) = refl
free_by w k true (Some (instr.Wait q)) = go (w.marks k q).posted refl
  where
    go : (t : Bool) → (w.marks k q).posted ≡ t → is_none (if (w.marks k q).posted then None else Some q) ≡ (w.marks k q).posted
    go true e = rw e refl
    go false e = rw e refl
free_by w k true (Some (instr.Publish s)) = refl
free_by w k true (Some (instr.Unlist s)) = refl
free_by w k true (Some (instr.PrepareAdd s v u)) = refl
free_by w k true (Some (instr.PrepareDrop s u v)) = refl
free_by w k true (Some (instr.Add s v role)) = refl
free_by w k true (Some (instr.Drop s v)) = refl
free_by w k true (Some (instr.Change s v role)) = refl

-- a stream is free where it runs and its instruction is local
pub free_is : (w : State) (id : StreamId) → is_free w id ≡ (is_running w id && goes w id.plan (next_instruction w id))
free_is w id = free_by w id.plan (is_running w id) (next_instruction w id)

goes_as : (w new : State) (k : ℕ) (o : Option Instr) → ((q : ℕ) → (new.marks k q).posted ≡ (w.marks k q).posted) → goes new k o ≡ goes w k o
goes_as w new k None marks = refl
goes_as w new k (Some (instr.Signal q)) marks = refl
goes_as w new k (Some (instr.Wait q)) marks = marks q
goes_as w new k (Some (instr.Publish s)) marks = refl
goes_as w new k (Some (instr.Unlist s)) marks = refl
goes_as w new k (Some (instr.PrepareAdd s v u)) marks = refl
goes_as w new k (Some (instr.PrepareDrop s u v)) marks = refl
goes_as w new k (Some (instr.Add s v role)) marks = refl
goes_as w new k (Some (instr.Drop s v)) marks = refl
goes_as w new k (Some (instr.Change s v role)) marks = refl

-- a stream is as free as before, where it runs and stands as before, and the same signals of its plan are posted
as_free : (w new : State) (x : StreamId) → is_running new x ≡ is_running w x → next_instruction new x ≡ next_instruction w x → ((q : ℕ) → (new.marks x.plan q).posted ≡ (w.marks x.plan q).posted) →
    is_free new x ≡ is_free w x
as_free w new x running before marks =
    free_is new x
    ∙ ap (λ b. b && goes new x.plan (next_instruction new x)) running
    ∙ ap (λ o. is_running w x && goes new x.plan o) before
    ∙ ap (λ b. is_running w x && b) (goes_as w new x.plan (next_instruction w x) marks)
    ∙ sym (free_is w x)

-- a stream that is free was begun
pub free_is_begun : (w : State) (id : StreamId) → is_free w id ≡ true → (is_running w id ≡ true) × (is_begun w id ≡ true)
free_is_begun w id e =
    let running = (and_parts (is_running w id) (goes w id.plan (next_instruction w id)) (sym (free_is w id) ∙ e)).0 in
    (running, (and_parts (is_begun w id) (not (progress_of w id).done) running).0)

-- ---- what a step leaves as it is

same_stream : (x y : StreamId) → x.plan ≡ y.plan → x.stream ≡ y.stream → x ≡ y
same_stream x y p q = ap (λ k. stream_id k x.stream) p ∙ ap (λ i. stream_id y.plan i) q

-- the plans, how far other streams have come, and which signals of other plans are posted; and of its own plan, if it posts none
record IsOwnStep (w : State) (id : StreamId) (new : State) : Type 0 where
  pub plans : new.plans ≡ w.plans
  pub progress : (x : StreamId) → x ≢ id → progress_of new x ≡ progress_of w x
  pub marks : (k q : ℕ) → k ≢ id.plan → (new.marks k q).posted ≡ (w.marks k q).posted
  pub quiet : posts_signal (next_instruction w id) ≡ false → (k q : ℕ) → (new.marks k q).posted ≡ (w.marks k q).posted

other_progress : (w : State) (id : StreamId) (y : Progress) (x : StreamId) → x ≢ id → put2 w.progress id.plan id.stream y x.plan x.stream ≡ progress_of w x
other_progress w id y x n = put2-other w.progress id.plan id.stream y x.plan x.stream (λ e. n (same_stream x id e.0 e.1))

-- a step that changes no signal
unmarked : (w : State) (id : StreamId) (y : Progress) (new : State) → new.plans ≡ w.plans → new.progress ≡ put2 w.progress id.plan id.stream y → new.marks ≡ w.marks → IsOwnStep w id new
unmarked w id y new plans progress marks = record {
  plans = plans;
  progress = λ x n. ap (λ f. f x.plan x.stream) progress ∙ other_progress w id y x n;
  marks = λ k q n. ap (λ (f : ℕ → ℕ → Mark). (f k q).posted) marks;
  quiet = λ p k q. ap (λ (f : ℕ → ℕ → Mark). (f k q).posted) marks;
}

-- who takes a signal leaves it posted
as_posted : (w : State) (k r : ℕ) (k' r' : ℕ) → (put2 w.marks k r (record (w.marks k r) { awaited = true }) k' r').posted ≡ (w.marks k' r').posted
as_posted w k r k' r' = elim (cases_eq k' k) [
  | inr apart ↦ ap (λ (m : Mark). m.posted) (put2-other w.marks k r (record (w.marks k r) { awaited = true }) k' r' (λ e. apart e.0))
  | inl here ↦ elim (cases_eq r' r) [
    | inr apart ↦ ap (λ (m : Mark). m.posted) (put2-other w.marks k r (record (w.marks k r) { awaited = true }) k' r' (λ e. apart e.1))
    | inl there ↦
        ap (λ (m : Mark). m.posted) (put2-at w.marks k r (record (w.marks k r) { awaited = true }) k' r' here there)
        ∙ ap (λ n. (w.marks n r).posted) (sym here) ∙ ap (λ n. (w.marks k' n).posted) (sym there)
  ]
]

own_step : (w : State) (id : StreamId) → IsOwnStep w id (happens w (Step id)).1
own_step w id = of_known_step w id passage.Through (λ o. IsOwnStep w id o.1) (record {
  idle = λ answer. record { plans = refl; progress = λ x n. refl; marks = λ k q n. refl; quiet = λ p k q. refl };
  refused = λ i x why t e. record { plans = refl; progress = λ y n. refl; marks = λ k q n. refl; quiet = λ p k q. refl };
  at_end = λ b. unmarked w id _ _ refl refl refl;
  publishes = λ s b. unmarked w id _ _ refl refl refl;
  unlists = λ s b. unmarked w id _ _ refl refl refl;
  posts = λ r b. record {
    plans = refl;
    progress = λ x n. other_progress w id _ x n;
    marks = λ k q n. ap (λ (m : Mark). m.posted) (put2-apart w.marks id.plan r _ k q n);
    quiet = λ p k q. absurd (let f = sym (ap posts_signal b.next_is) ∙ p in cc);
  };
  awaits = λ r b e. record {
    plans = refl;
    progress = λ x n. other_progress w id _ x n;
    marks = λ k q n. as_posted w id.plan r k q;
    quiet = λ p k q. as_posted w id.plan r k q;
  };
  lost = λ i x t p. unmarked w id _ _ refl refl refl;
  through = λ i x effect t a p. unmarked w id _ _ refl refl refl;
  unanswered = λ i x effect t a p. unmarked w id _ _ refl refl refl;
})

-- another stream stands as before
other_as_free : (w : State) (id : StreamId) (new : State) → IsOwnStep w id new → (x : StreamId) → x ≢ id → ((q : ℕ) → (new.marks x.plan q).posted ≡ (w.marks x.plan q).posted) → is_free new x ≡ is_free w x
other_as_free w id new own x n marks =
    as_free w new x
    (ap (λ (plans : List Start). running plans (progress_of new x)) own.plans ∙ ap (running w.plans) (own.progress x n))
    (ap (λ (plans : List Start). instruction plans (progress_of new x)) own.plans ∙ ap (instruction w.plans) (own.progress x n))
    marks
  where
    plan_in : List Start → PlanModel
    plan_in plans = (slice_index_or plans x.plan no_start).plan

    running : List Start → Progress → Bool
    running plans p = (nat_lt x.plan (length plans) && nat_lt x.stream (length (slice_index_or plans x.plan no_start).plan.streams)) && not p.done

    instruction : List Start → Progress → Option Instr
    instruction plans p = slice_get (slice_index_or (slice_index_or plans x.plan no_start).plan.streams x.stream no_stream).code p.at

-- after a step only streams of its plan are free, if that was so before
pub free_in_after : (w : State) (id : StreamId) → IsFreeIn w id.plan → IsFreeIn (happens w (Step id)).1 id.plan
free_in_after w id alone x free = elim (cases_eq x.plan id.plan) [
  | inl here ↦ here
  | inr apart ↦
      let own = own_step w id in
      alone x (sym (other_as_free w id (happens w (Step id)).1 own x (λ e. apart (ap (λ (y : StreamId). y.plan) e)) (λ q. own.marks x.plan q apart)) ∙ free)
]

-- and if it posts no signal, only the stream itself is
pub free_alone_after : (w : State) (id : StreamId) → IsFreeAlone w id → posts_signal (next_instruction w id) ≡ false → IsFreeAlone (happens w (Step id)).1 id
free_alone_after w id alone quiet x free = elim (cases_eq x.plan id.plan) [
  | inl here ↦ elim (cases_eq x.stream id.stream) [
    | inl there ↦ same_stream x id here there
    | inr apart ↦ other (λ e. apart (ap (λ (y : StreamId). y.stream) e))
  ]
  | inr apart ↦ other (λ e. apart (ap (λ (y : StreamId). y.plan) e))
]
  where
    other : x ≢ id → x ≡ id
    other n = let own = own_step w id in alone x (sym (other_as_free w id (happens w (Step id)).1 own x n (own.quiet quiet x.plan)) ∙ free)

-- ---- where the next free stream is looked for

-- where none is free
pub none_is_free : (w : State) (id : StreamId) → next_free w ≡ None → is_free w id ≡ true → ⊥
none_is_free w id none free =
    let parts = begun_parts w id (free_is_begun w id free).1 in
    let plan : free_of w id.plan ≡ None = first_from_none (free_of w) 0 (length w.plans) none id.plan (omega arith) (let l = parts.0 in omega arith) in
    let stream : free_at w id.plan id.stream ≡ None = first_from_none (free_at w id.plan) 0 (stream_count w id.plan) plan id.stream (omega arith) (let l = parts.1 in omega arith) in
    let here : free_at w id.plan id.stream ≡ Some id = ap (λ b. if b then Some id else None) free in
    absurd (let e = sym here ∙ stream in cc)

-- a search whose other numbers have no answer
only_at : {A : Type 0} (f : ℕ → Option A) (a n k : ℕ) → a ≤ k → k < a + n → ((j : ℕ) → j ≢ k → f j ≡ None) → first_from a n f ≡ f k
only_at f a zero k low high none = absurd (omega arith)
only_at f a (suc n) k low high none = elim (cases_eq a k) [
  | inl here ↦ elim (cases_Option (f k)) [
    | inl q ↦ none_from f a (suc n) (λ j l. elim (cases_eq j k) [ inl same ↦ ap f same ∙ q | inr apart ↦ none j apart ]) ∙ sym q
    | inr q ↦ step_some f a n q.0 (ap f here ∙ q.1) ∙ sym q.1
  ]
  | inr apart ↦ step_none f a n (none a apart) ∙ only_at f (a + 1) n k (omega arith) (omega arith) none
]

not_free_at : (w : State) (k i : ℕ) → is_free w (stream_id k i) ≢ true → free_at w k i ≡ None
not_free_at w k i n = ap (λ b. if b then Some (stream_id k i) else None) (false_from_ne_true (is_free w (stream_id k i)) n)

-- in its plan
pub next_in_plan : (w : State) (k : ℕ) → k < length w.plans → IsFreeIn w k → next_free w ≡ free_of w k
next_in_plan w k l alone =
    only_at (free_of w) 0 (length w.plans) k (omega arith) (omega arith) (λ j n. none_from (free_at w j) 0 (stream_count w j) (λ i m. not_free_at w j i (λ free. n (alone (stream_id j i) free))))

-- at the stream, if it is free
pub next_alone : (w : State) (id : StreamId) → IsFreeAlone w id → is_free w id ≡ true → next_free w ≡ Some id
next_alone w id alone free =
    let parts = begun_parts w id (free_is_begun w id free).1 in
    next_in_plan w id.plan parts.0 (λ x e. ap (λ (y : StreamId). y.plan) (alone x e))
    ∙ only_at (free_at w id.plan) 0 (stream_count w id.plan) id.stream (omega arith) (let l = parts.1 in omega arith)
    (λ i n. not_free_at w id.plan i (λ e. n (ap (λ (y : StreamId). y.stream) (alone (stream_id id.plan i) e))))
    ∙ ap (λ b. if b then Some id else None) free

-- and if it is not, there is none
pub none_alone : (w : State) (id : StreamId) → IsFreeAlone w id → is_free w id ≡ false → next_free w ≡ None
none_alone w id alone bound = elim (cases_Option (next_free w)) [
  | inl none ↦ none
  | inr some ↦ absurd (
      let free = next_is_free w some.0 some.1 in
      let here : is_free w id ≡ true = subst (λ y. is_free w y ≡ true) (alone some.0 free) free in cc
      )
]

-- ---- answers and starts

-- who waits for an answer posts no signal
waits_quietly : (w : State) (o : Option Instr) → (is_some (call_under w.numbers o) || is_some (entry_by w o)) ≡ true → posts_signal o ≡ false
waits_quietly w None e = refl
waits_quietly w (Some (instr.Signal q)) e = absurd (cc)
waits_quietly w (Some (instr.Wait q)) e = refl
waits_quietly w (Some (instr.Publish s)) e = refl
waits_quietly w (Some (instr.Unlist s)) e = refl
waits_quietly w (Some (instr.PrepareAdd s v u)) e = refl
waits_quietly w (Some (instr.PrepareDrop s u v)) e = refl
waits_quietly w (Some (instr.Add s v role)) e = refl
waits_quietly w (Some (instr.Drop s v)) e = refl
waits_quietly w (Some (instr.Change s v role)) e = refl

-- after the step of a stream whose answer has come only this stream can be free
pub free_after_answer : (w : State) (id : StreamId) → next_free w ≡ None → awaits w id ≡ true → IsFreeAlone (happens w (Step id)).1 id
free_after_answer w id none waits = free_alone_after w id (λ x free. absurd (none_is_free w x none free)) (go (is_running w id) waits)
  where
    go : (r : Bool) → (is_some (call_under w.numbers (if r then next_instruction w id else None)) || is_some (entry_by w (if r then next_instruction w id else None))) ≡ true → posts_signal (next_instruction w id) ≡ false
    go true e = waits_quietly w (next_instruction w id) e
    go false e = absurd (cc)

-- a plan that begins is the next one
pub begun_is : (w new : State) (plan : PlanModel) (number : ℕ) → happens w (Begin plan) ≡ (Answered (played.Begun number), new) → (new ≡ started w plan) × (number ≡ length w.plans)
begun_is w new plan number = go (first_holding w.sizes w.place (pool w) plan)
  where
    go : (o : Option Holding) → begun w plan o ≡ (Answered (played.Begun number), new) → (new ≡ started w plan) × (number ≡ length w.plans)
    go (Some why) e = absurd (let f = ap (λ (o : Outcome × State). o.0) e in cc)
    go None e = by_room (nat_lt (free_places w) (places_of plan)) (has_all_plans w) e
      where
        by_room : (full many : Bool) →
            (if full then unchanged w (played.NotBegun fault.LogFull) else if many then unchanged w (played.NotBegun fault.TooManyPlans) else (Answered (played.Begun (length w.plans)), started w plan))
            ≡ (Answered (played.Begun number), new) → (new ≡ started w plan) × (number ≡ length w.plans)
        by_room true many e = absurd (let f = ap (λ (o : Outcome × State). o.0) e in cc)
        by_room false true e = absurd (let f = ap (λ (o : Outcome × State). o.0) e in cc)
        by_room false false e =
            (sym (ap (λ (o : Outcome × State). o.1) e), (let f : ◌≡◌ {A = Outcome} (Answered (played.Begun (length w.plans))) (Answered (played.Begun number)) = ap (λ (o : Outcome × State). o.0) e in cc))

-- only its streams are free then
pub free_after_start : (w : State) (plan : PlanModel) → next_free w ≡ None → IsFreeIn (started w plan) (length w.plans)
free_after_start w plan none x free = elim (cases_eq x.plan (length w.plans)) [
  | inl here ↦ here
  | inr apart ↦ absurd (
      let new : State = started w plan in
      let is = free_is_begun new x free in
      let parts = begun_parts new x is.1 in
      let more = length_push w.plans (record { plan = plan; since = length w.log }) in
      let known : x.plan < length w.plans = (let l = parts.0 in omega arith) in
      let same : plan_at new x.plan ≡ plan_at w x.plan = plan_before w plan x.plan known in
      let in_plan : x.stream < stream_count w x.plan = subst (λ (p : PlanModel). x.stream < length p.streams) same parts.1 in
      let was : is_begun w x ≡ true = ap (λ b. b && nat_lt x.stream (stream_count w x.plan)) (lt-ltb x.plan (length w.plans) known) ∙ lt-ltb x.stream (stream_count w x.plan) in_plan in
      let running : is_running new x ≡ is_running w x = ap (λ b. b && not (progress_of w x).done) (is.1 ∙ sym was) in
      let before : next_instruction new x ≡ next_instruction w x = ap (λ (p : PlanModel). slice_get (slice_index_or p.streams x.stream no_stream).code (progress_of w x).at) same in
      none_is_free w x none (sym (as_free w new x running before (λ q. refl)) ∙ free)
      )
]

-- ---- after each step

-- no plan goes
pub plans_stay : (w : State) (id : StreamId) (k : ℕ) → k < length w.plans → k < length (happens w (Step id)).1.plans
plans_stay w id k l = subst (λ (plans : List Start). k < length plans) (sym (own_step w id).plans) l

-- after the step of a free stream still only streams of its plan are free
pub free_in_step : (w : State) (id : StreamId) (k : ℕ) → IsFreeIn w k → is_free w id ≡ true → IsFreeIn (happens w (Step id)).1 k
free_in_step w id k alone free =
    let here : id.plan ≡ k = alone id free in
    subst (IsFreeIn (happens w (Step id)).1) here (free_in_after w id (subst (IsFreeIn w) (sym here) alone))
