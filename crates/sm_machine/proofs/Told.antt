-- The log has of each stream a line for each try of its calls, for each of its instructions that is no call, and for its end.
use Rattle.std.proofs.Common.{◌≡◌, ◌≢◌, ◌+◌, ◌++◌, ◌∷◌, [], ℕ, Bool, true, false, cond, refl, sym, ap, ◌∙◌, subst, arith, inl, inr, Some, List, length, drop}
use Rattle.std.specs.Prelude.{count_by}
use Rattle.std.proofs.lemmas.Bool.{cases_eq, cases_lt, eq-eqb, ne_eqb, le-ltb}
use Rattle.std.proofs.lemmas.List.Sums.{sum_by-append}
use Rattle.sm_placement.specs.Sums.{bit}
use Rattle.sm_placement.specs.Setup.{Setup}
use Rattle.sm_reservation.specs.declared.stream_id.StreamId.{StreamId}
use Rattle.sm_plan_code.specs.declared.instruction.Instr.{Instr}
use Rattle.sm_plan_code.specs.declared.instruction.Instr.TheVariants.{Signal, Wait}
use Rattle.sm_plan_code.specs.Instr.{is_call}
use Rattle.sm_plan_code.specs.Plan.{StreamModel, PlanModel}
use Rattle.sm_verifier.specs.Stream.{no_stream}
use Rattle.std.specs.Prelude.{slice_index_or, not}
use Rattle.sm_protocol.specs.declared.event.Event.TheVariants as event
use Rattle.sm_protocol.specs.declared.event.Logged.{Logged}
use Rattle.sm_protocol.specs.declared.event.Passage.{Passage}
use Rattle.sm_protocol.specs.declared.event.Played.TheVariants as played
use Rattle.sm_protocol.specs.Hand.{is_token}
use Rattle.sm_protocol.specs.State.{State, Progress, fresh, progress_of, stream_parts, set_progress, is_begun, is_no_call}
use Rattle.sm_protocol.specs.Steps.{behind_call, ahead_of_call, tried_more, call_number}
use Rattle.sm_protocol.specs.Happens.{Happening, happens, started}
use Rattle.sm_protocol.specs.Laws.{IsReached}
use Rattle.sm_protocol.proofs.Cases.{IsBefore, OfSteps, of_happens}
use Rattle.sm_protocol.proofs.Invariant.{IsKept}
use Rattle.sm_protocol.proofs.Keeping.{begun}
use Rattle.sm_protocol.proofs.LogRoom.{plan_before}
use Rattle.sm_protocol.proofs.Numbers.{each_stream, goes_on, same_stream}
use Rattle.sm_protocol.proofs.Places.{no_calls_from, past_no_call, past_call}
use Rattle.sm_protocol.proofs.Reached.{by_events}
use Rattle.sm_machine.specs.Retired.{is_made_by, made_in, steps_at_end}
use Rattle.sm_machine.proofs.ties.Before.{kept}

-- ---- one line more

one : (b : Bool) → 0 + cond b 1 0 ≡ bit b
one true = refl
one false = refl

made_push : (id : StreamId) (log : List Logged) (x : Logged) → made_in id (log ++ x ∷ []) ≡ made_in id log + bit (is_made_by id x.event)
made_push id log x = sum_by-append (λ (y : Logged). cond (is_made_by id y.event) 1 0) log (x ∷ []) ∙ ap (λ n. made_in id log + n) (one (is_made_by id x.event))

-- a stream's token is its own
pub own_token : (id : StreamId) → is_token id id ≡ true
own_token id = rw (eq-eqb id.plan id.plan refl, eq-eqb id.stream id.stream refl) refl

-- and that of another stream is not
pub other_token : (id other : StreamId) → other ≢ id → is_token other id ≡ false
other_token id other n = elim (cases_eq id.plan other.plan) [
  | inr e ↦ rw (ne_eqb id.plan other.plan e) refl
  | inl e ↦ elim (cases_eq id.stream other.stream) [
    | inr d ↦ rw (eq-eqb id.plan other.plan e, ne_eqb id.stream other.stream d) refl
    | inl d ↦ absurd (n (sym (same_stream id other e d)))
  ]
]

-- ---- what the log has of a stream that stands so

-- what the log has of the stream, and its instructions left that are no calls, are its tries, all its instructions that are no
-- calls, and its end
abbrev IsToldOf : ℕ → StreamModel → Progress → Type 0
IsToldOf made parts y = made + no_calls_from parts y.at ≡ y.tries + count_by is_no_call parts.code + bit y.done

record IsTold (w : State) : Type 0 where
  each : (id : StreamId) → IsToldOf (made_in id w.log) (stream_parts w id) (progress_of w id)

module _ (w : State) (h : IsTold w) where
  -- one stream goes on by a line of its own
  went : (id : StreamId) (y : Progress) (x : Logged) → IsToldOf (made_in id w.log + bit (is_made_by id x.event)) (stream_parts w id) y → ((a : StreamId) → a ≢ id → is_made_by a x.event ≡ false) →
      (a : StreamId) → IsToldOf (made_in a (w.log ++ x ∷ [])) (stream_parts w a) (set_progress w id y a.plan a.stream)
  went id y x own apart = each_stream (goes_on w id y) (λ a z. IsToldOf (made_in a (w.log ++ x ∷ [])) (stream_parts w a) z)
      (subst (λ n. IsToldOf n (stream_parts w id) y) (sym (made_push id w.log x)) own)
      (λ a e.
      let same : made_in a (w.log ++ x ∷ []) ≡ made_in a w.log + 0 = made_push a w.log x ∙ ap (λ b. made_in a w.log + bit b) (apart a e) in
      let was = h.each a in
      omega arith)

  -- a line of no stream
  beside : (x : Logged) → ((a : StreamId) → is_made_by a x.event ≡ false) → (a : StreamId) → IsToldOf (made_in a (w.log ++ x ∷ [])) (stream_parts w a) (progress_of w a)
  beside x none a =
      let same : made_in a (w.log ++ x ∷ []) ≡ made_in a w.log + 0 = made_push a w.log x ∙ ap (λ b. made_in a w.log + bit b) (none a) in
      let was = h.each a in
      omega arith

  module _ (id : StreamId) where
    abbrev now : Progress
    now = progress_of w id

    one_more : bit (is_token id id) ≡ 1
    one_more = ap bit (own_token id)

    past : (i : Instr) → IsBefore w id (Some i) → is_call i ≡ false → (y : Progress) → y.at ≡ now.at + 1 → y.tries ≡ now.tries → y.done ≡ now.done → IsToldOf (made_in id w.log + bit (is_token id id)) (stream_parts w id) y
    past i b other y at tries done =
        let was = h.each id in
        let less = past_no_call (stream_parts w id) now.at i b.next_is (ap not other) in
        let here : no_calls_from (stream_parts w id) y.at ≡ no_calls_from (stream_parts w id) (now.at + 1) = ap (no_calls_from (stream_parts w id)) at in
        let ends : bit y.done ≡ bit now.done = ap bit done in
        let m = one_more in
        omega arith

    past_try : (i : Instr) → IsBefore w id (Some i) → is_call i ≡ true → (y : Progress) → y.at ≡ now.at + 1 → y.tries ≡ now.tries + 1 → y.done ≡ now.done → IsToldOf (made_in id w.log + bit (is_token id id)) (stream_parts w id) y
    past_try i b call y at tries done =
        let was = h.each id in
        let less = past_call (stream_parts w id) now.at i b.next_is (ap not call) in
        let here : no_calls_from (stream_parts w id) y.at ≡ no_calls_from (stream_parts w id) (now.at + 1) = ap (no_calls_from (stream_parts w id)) at in
        let ends : bit y.done ≡ bit now.done = ap bit done in
        let m = one_more in
        omega arith

    tried : (y : Progress) → y.at ≡ now.at → y.tries ≡ now.tries + 1 → y.done ≡ now.done → IsToldOf (made_in id w.log + bit (is_token id id)) (stream_parts w id) y
    tried y at tries done =
        let was = h.each id in
        let here : no_calls_from (stream_parts w id) y.at ≡ no_calls_from (stream_parts w id) now.at = ap (no_calls_from (stream_parts w id)) at in
        let ends : bit y.done ≡ bit now.done = ap bit done in
        let m = one_more in
        omega arith

    at_its_end : now.done ≡ false → IsToldOf (made_in id w.log + bit (is_token id id)) (stream_parts w id) (record now { done = true })
    at_its_end running =
        let was = h.each id in
        let none : bit now.done ≡ 0 = ap bit running in
        let m = one_more in
        omega arith

    told_by_steps : (passage : Passage) → OfSteps w id passage (λ o. IsTold o.1)
    told_by_steps passage = record {
      idle = λ answer. h;
      refused = λ i x why t e. h;
      at_end = λ b. record { each = went id (record now { done = true }) _ (at_its_end b.running) (λ a n. other_token id a n) };
      publishes = λ i s server b other. record { each = went id (record now { at = now.at + 1 }) _ (past i b other (record now { at = now.at + 1 }) refl refl refl) (λ a n. other_token id a n) };
      posts = λ q b. record { each = went id (record now { at = now.at + 1 }) _ (past (Signal q) b refl (record now { at = now.at + 1 }) refl refl refl) (λ a n. other_token id a n) };
      awaits = λ q b e. record { each = went id (record now { at = now.at + 1 }) _ (past (Wait q) b refl (record now { at = now.at + 1 }) refl refl refl) (λ a n. other_token id a n) };
      lost = λ i x t p. record { each = went id (record (tried_more now false) { pending = call_number w now }) _ (tried (record (tried_more now false) { pending = call_number w now }) refl refl refl) (λ a n. other_token id a n) };
      through = λ i x effect t a p. record { each = went id (behind_call now effect.fresh) _ (past_try i t.before t.call (behind_call now effect.fresh) refl refl refl) (λ b n. other_token id b n) };
      unanswered = λ i x effect t a p. record { each = went id (ahead_of_call w now effect.fresh) _ (tried (ahead_of_call w now effect.fresh) refl refl refl) (λ b n. other_token id b n) };
    }

  -- a plan that starts has made nothing
  told_started : IsKept w → (plan : PlanModel) → IsTold (started w plan)
  told_started v plan = record {
    each = λ id. elim (cases_lt id.plan (length w.plans)) [
      | inl old ↦ subst (λ (p : PlanModel). IsToldOf (made_in id w.log) (slice_index_or p.streams id.stream no_stream) (progress_of w id)) (sym (plan_before w plan id.plan old)) (h.each id)
      | inr new ↦
          let unmade : progress_of w id ≡ fresh = v.unbegun id (rw (le-ltb id.plan (length w.plans) new) refl) in
          let was : IsToldOf (made_in id w.log) (stream_parts w id) fresh = subst (IsToldOf (made_in id w.log) (stream_parts w id)) unmade (h.each id) in
          subst (IsToldOf (made_in id w.log) (stream_parts (started w plan) id)) (sym unmade) (omega arith)
    ];
  }

  told_kept : IsKept w → (e : Happening) → IsTold (happens w e).1
  told_kept v e = of_happens w (λ e o. IsTold o.1) (record {
    idle = λ e answer n. h;
    steps = λ id. told_by_steps id _;
    loses = λ id after. told_by_steps id _;
    refills = λ id n f. record {
      each = each_stream (goes_on w id (record (progress_of w id) { refills = (progress_of w id).refills + n }))
          (λ a z. IsToldOf (made_in a (w.log ++ record { event = event.Refill id n; answer = played.Refilled } ∷ [])) (stream_parts w a) z)
          (beside (record { event = event.Refill id n; answer = played.Refilled }) (λ a. refl) id)
          (λ a d. beside (record { event = event.Refill id n; answer = played.Refilled }) (λ a. refl) a);
    };
    arrives = λ s v f. record { each = beside _ (λ a. refl) };
    passes_on = λ t o f. record { each = beside _ (λ a. refl) };
    approves = λ v f. record { each = beside _ (λ a. refl) };
    restarts = λ v f. record { each = beside _ (λ a. refl) };
    starts = λ plan a b c. told_started v plan;
  }) e

-- it holds of every state that events lead to
told : (setup : Setup) (w : State) → IsReached setup w → IsTold w
told setup w r =
    let u = by_events setup IsTold (λ p room o. record { each = λ id. refl }) (λ x e at f h. told_kept x h (kept setup x at) e) w r in
    record { each = u.each }

none_left : (code : List Instr) (at : ℕ) → at ≡ length code → count_by is_no_call (drop at code) ≡ 0
none_left [] at e = rw e refl
none_left (i ∷ code) at e = rw e (none_left code (length code) refl)

-- where a stream has made its end, the log has as many steps and lost tries of it as it has made
pub recorded_is : (setup : Setup) (w : State) → IsReached setup w → (id : StreamId) → is_begun w id ≡ true → (progress_of w id).done ≡ true → steps_at_end w id ≡ made_in id w.log
recorded_is setup w r id b d =
    let v = kept setup w r in
    let k = begun w id b in
    let at = ((v.plans id.plan k.plan).streams id.stream k.stream).at_end d in
    let none = none_left (stream_parts w id).code (progress_of w id).at at in
    let all = (told setup w r).each id in
    let ended : bit (progress_of w id).done ≡ 1 = ap bit d in
    omega arith
