-- Some stream of each plan that isn't done can step, or one stands before a call and has spent its allowance.
use Rattle.sm_protocol.proofs.Below.{◌≡◌, ◌≢◌, ℕ, ◌+◌, ◌<◌, ◌≤◌, ◌⊎◌, Bool, true, false, not, Option, Some, None, Result, Ok, Err, refl, sym, ap, ◌∙◌, inl, inr, subst, arith, length, ◌==◌, slice_get, if◌then◌else◌, cases_Bool, eqb-true, lt-ltb, not-true, slice_get_within, Refusal, bit, CallEffect, StreamId, Instr, PrepareAdd, PrepareDrop, Add, Drop, Change, Publish, Unlist, Signal, Wait, ServerCall, is_call, shard_of, PlanModel, code_at, post_of, CanMakeNext, some_goes_on, stand_once, are_of_plan, some_below}
use Rattle.sm_protocol.proofs.Words.{Through, State, Progress, plan_at, stream_count, stream_id, progress_of, allowance, next_instruction, is_unfinished, Outcome, Refused, Answered, made, tried, call_tried, call_again, call_to_make, step, IsStep, CanStep, HasSpent, SomeCanStepOrSpent, unhalted}
use Rattle.sm_protocol.specs.declared.event.Played.TheVariants as played
use Rattle.sm_protocol.proofs.Invariant.{IsRunning, IsKept, code_of}
use Rattle.sm_protocol.proofs.Cases.{answer_to}
use Rattle.sm_protocol.proofs.Trials.{call_at}
use Rattle.sm_protocol.proofs.Keeping.{is_begun_true}
use Rattle.sm_protocol.proofs.Steps.{step_keeps}
use Rattle.sm_protocol.proofs.Whole.{unhalted_keeps}

-- ---- a stream that can make its next step

-- a stream that hasn't made its end, and whose next instruction, where it waits, waits for a posted signal
record CanGoOn (w : State) (k i : ℕ) : Type 0 where
  pub stream : i < stream_count w k
  pub unended : (w.progress k i).done ≡ false
  pub posted : (q : ℕ) → slice_get (code_of w (stream_id k i)) (w.progress k i).at ≡ Some (Wait q) → (w.marks k q).posted ≡ true

-- how many steps a stream has made, its end counted as one
abbrev steps_made : Progress → ℕ
steps_made x = x.at + bit x.done

some_stream : (w : State) (v : IsKept w) (k : ℕ) → k < length w.plans → is_unfinished w k ≡ true → (i : ℕ) × CanGoOn w k i
some_stream w v k l unfinished =
    let some = some_below (stream_count w k) (λ i. not (w.progress k i).done) unfinished in
    let next = some_goes_on w.sizes plan to some.0 r.checked.parts.signals r.checked.sound some.1 (left some.0 some.1 (not-true (w.progress k some.0).done some.2)) in
    (next.0, goes next.0 next.1)
  where
    plan : PlanModel
    plan = plan_at w k

    r : IsRunning w.sizes w.place plan (w.progress k) (w.marks k)
    r = v.plans k l

    to : ℕ → ℕ
    to i = steps_made (w.progress k i)

    left : (i : ℕ) → i < length plan.streams → (w.progress k i).done ≡ false → to i ≤ length (code_at plan i)
    left i m d = let a = (r.streams i m).within in let b : bit (w.progress k i).done ≡ 0 = rw d refl in omega arith

    goes : (i : ℕ) → CanMakeNext plan to i → CanGoOn w k i
    goes i next = record { stream = next.stream; unended = unended; posted = posted }
      where
        unended : (w.progress k i).done ≡ false
        unended = elim (cases_Bool (w.progress k i).done) [
          | inr d ↦ d
          | inl d ↦ absurd (
              let a = (r.streams i next.stream).at_end d in
              let b : bit (w.progress k i).done ≡ 1 = rw d refl in
              let n = next.left in
              omega arith
              )
        ]

        here : to i ≡ (w.progress k i).at
        here = let b : bit (w.progress k i).done ≡ 0 = rw unended refl in omega arith

        posted : (q : ℕ) → slice_get (code_at plan i) (w.progress k i).at ≡ Some (Wait q) → (w.marks k q).posted ≡ true
        posted q wait =
            let known = (are_of_plan plan i (w.progress k i).at q r.checked.parts.signals).wait wait in
            let once = (stand_once plan q (r.checked.sound.signals q known)).post in
            let inside = slice_get_within (code_at plan (post_of plan q).0) (post_of plan q).1 (Signal q) once.here in
            let made = next.posted q (subst (λ n. slice_get (code_at plan i) n ≡ Some (Wait q)) (sym here) wait) in
            let other = w.progress k (post_of plan q).0 in
            let before : (post_of plan q).1 < other.at = elim (cases_Bool other.done) [
              | inr d ↦ let b : bit other.done ≡ 0 = rw d refl in omega arith
              | inl d ↦ let a = (r.streams (post_of plan q).0 once.stream).at_end d in omega arith
            ] in
            r.posted q known ∙ lt-ltb (post_of plan q).1 other.at before

-- ---- what its step makes

-- the stream stands before a call, and its tries are its allowance
pub record IsSpentAt (w : State) (id : StreamId) : Type 0 where
  pub spent : HasSpent w id
  pub instr : Instr
  pub here : slice_get (code_of w id) (progress_of w id).at ≡ Some instr
  pub call : is_call instr ≡ true
  pub all : (progress_of w id).tries ≡ allowance w id

-- a call is made again as it was
again_made : (numbers : ℕ → ℕ) (i : Instr) → is_call i ≡ true → (call : ServerCall) × (call_again numbers i (shard_of i) ≡ Some call)
again_made numbers (Publish s) e = cc
again_made numbers (Unlist s) e = cc
again_made numbers (Signal q) e = cc
again_made numbers (Wait q) e = cc
again_made numbers _ e = (_, refl)

-- a call has its try
pub call_is_made : (w : State) (x : Progress) (i : Instr) → is_call i ≡ true → (call : ServerCall) × (call_to_make w x i ≡ Some call)
call_is_made w x i e = elim (cases_Bool x.ahead) [
  | inl a ↦ let g = again_made w.numbers i e in (g.0, rw a g.1)
  | inr a ↦ let c = call_at w.numbers i e in (c.call, rw a c.next)
]

-- a try that comes through is made, unless it is refused
tried_through : (w : State) (id : StreamId) (i : Instr) (answer : Result CallEffect Refusal) → (tried w id i Through answer).0 ≢ Refused → IsStep (tried w id i Through answer).0
tried_through w id i (Ok effect) n = tt
tried_through w id i (Err why) n = absurd (n refl)

call_steps : (w : State) (id : StreamId) (i : Instr) → is_call i ≡ true → (call_tried w id Through i (call_to_make w (progress_of w id) i)).0 ≢ Refused →
    IsStep (call_tried w id Through i (call_to_make w (progress_of w id) i)).0
    ⊎ (((progress_of w id).tries ≡ allowance w id) × ((call_tried w id Through i (call_to_make w (progress_of w id) i)).0 ≡ Answered played.Spent))
call_steps w id i is n = go ((progress_of w id).tries == allowance w id) refl
  where
    call : (x : ServerCall) × (call_to_make w (progress_of w id) i ≡ Some x)
    call = call_is_made w (progress_of w id) i is

    P : Outcome → Type 0
    P o = IsStep o ⊎ (((progress_of w id).tries ≡ allowance w id) × (o ≡ Answered played.Spent))

    chosen : Bool → Outcome × State
    chosen t = if t then (Answered played.Spent, w) else tried w id i Through (answer_to w id call.0)

    is_chosen : (t : Bool) → ((progress_of w id).tries == allowance w id) ≡ t → call_tried w id Through i (call_to_make w (progress_of w id) i) ≡ chosen t
    is_chosen t e = ap (call_tried w id Through i) call.1 ∙ ap chosen e

    go : (t : Bool) → ((progress_of w id).tries == allowance w id) ≡ t → P (call_tried w id Through i (call_to_make w (progress_of w id) i)).0
    go true e = subst (λ o. P o.0) (sym (is_chosen true e)) (inr (eqb-true (progress_of w id).tries (allowance w id) e, refl))
    go false e = subst (λ o. P o.0) (sym (is_chosen false e)) (inl (tried_through w id i (answer_to w id call.0) (subst (λ o. o.0 ≢ Refused) (is_chosen false e) n)))

-- The next instruction of a stream that can go on is made, or it is a call and the allowance is spent.
abbrev IsMadeOrSpent : State → StreamId → Option Instr → Outcome → Type 0
IsMadeOrSpent w id next o = IsStep o ⊎ ((o ≡ Answered played.Spent) × ((i : Instr) × (next ≡ Some i) × (is_call i ≡ true)) × ((progress_of w id).tries ≡ allowance w id))

of_call : (w : State) (id : StreamId) (i : Instr) → is_call i ≡ true → (call_tried w id Through i (call_to_make w (progress_of w id) i)).0 ≢ Refused →
    IsMadeOrSpent w id (Some i) (call_tried w id Through i (call_to_make w (progress_of w id) i)).0
of_call w id i is n = elim (call_steps w id i is n) [
  | inl m ↦ inl m
  | inr m ↦ inr (m.1, (i, refl, is), m.0)
]

made_steps : (w : State) (id : StreamId) (o : Option Instr) → ((q : ℕ) → o ≡ Some (Wait q) → (w.marks id.plan q).posted ≡ true) → (made w id Through o).0 ≢ Refused →
    IsMadeOrSpent w id o (made w id Through o).0
made_steps w id None wait n = inl tt
made_steps w id (Some (Publish s)) wait n = inl tt
made_steps w id (Some (Unlist s)) wait n = inl tt
made_steps w id (Some (Signal q)) wait n = inl tt
made_steps w id (Some (Wait q)) wait n = inl (rw (wait q refl) tt)
made_steps w id (Some (PrepareAdd s v u)) wait n = of_call w id (PrepareAdd s v u) refl n
made_steps w id (Some (PrepareDrop s u v)) wait n = of_call w id (PrepareDrop s u v) refl n
made_steps w id (Some (Add s v role)) wait n = of_call w id (Add s v role) refl n
made_steps w id (Some (Drop s v)) wait n = of_call w id (Drop s v) refl n
made_steps w id (Some (Change s v to)) wait n = of_call w id (Change s v to) refl n

-- ---- plans that aren't done

-- a stream of the plan that hasn't made its end can step, or stands before a call and has spent its allowance
pub record IsOnward (w : State) (k : ℕ) : Type 0 where
  pub i : ℕ
  pub stream : i < stream_count w k
  pub unended : (w.progress k i).done ≡ false
  pub goes : CanStep w (stream_id k i) ⊎ IsSpentAt w (stream_id k i)

-- some stream of a plan that isn't done can step, or stands before a call with its allowance spent
pub some_onward : (w : State) → IsKept w → (k : ℕ) → k < length w.plans → is_unfinished w k ≡ true → IsOnward w k
some_onward w v k l unfinished =
    let s = some_stream w v k l unfinished in
    record { i = s.0; stream = s.1.stream; unended = s.1.unended; goes = goes s.0 s.1 }
  where
    goes : (i : ℕ) → CanGoOn w k i → CanStep w (stream_id k i) ⊎ IsSpentAt w (stream_id k i)
    goes i g = elim (made_steps u id (next_instruction u id) g.posted not_refused) [
      | inl m ↦ inl (subst (λ o. IsStep o.0) (sym is) m)
      | inr m ↦ inr (record { spent = ap (λ o. o.0) is ∙ m.0; instr = m.1.0; here = m.1.1; call = m.1.2; all = m.2 })
    ]
      where
        u : State
        u = unhalted w

        id : StreamId
        id = stream_id k i

        is : step u id Through ≡ made u id Through (next_instruction u id)
        is = rw (is_begun_true w id (record { plan = l; stream = g.stream }), g.unended) refl

        not_refused : (made u id Through (next_instruction u id)).0 ≢ Refused
        not_refused = subst (λ o. o.0 ≢ Refused) is (step_keeps u (unhalted_keeps w v) id Through).0

-- of each plan that isn't done some stream can step, or one that isn't done has spent its allowance
pub some_can_step_or_spent : (w : State) → IsKept w → SomeCanStepOrSpent w
some_can_step_or_spent w v k l unfinished =
    let o = some_onward w v k l unfinished in
    elim o.goes [
      | inl c ↦ inl (o.i, o.stream, o.unended, c)
      | inr s ↦ inr (o.i, o.stream, o.unended, s.spent)
    ]
