-- A stream that stands before a call stands before the same one after each event, or has gone on; and once a try of it was made that was not
-- answered, under the same number.
use Rattle.std.proofs.Common.{◌≡◌, ◌≢◌, ◌⊎◌, ℕ, ◌+◌, ◌<◌, ◌≤◌, arith, Bool, true, false, refl, sym, ap, ◌∙◌, inl, inr, subst, Option, Some, None, Ok, List, [], ◌∷◌, length}
use Rattle.std.specs.Prelude.{◌&&◌, if◌then◌else◌, nat_lt, slice_get, slice_index_or}
use Rattle.std.proofs.lemmas.Bool.{ne_eqb}
use Rattle.sm_placement.specs.Place.{CallEffect}
use Rattle.sm_placement.proofs.Sums.{put-here}
use Rattle.sm_reservation.specs.declared.stream_id.StreamId.{StreamId}
use Rattle.sm_plan_code.specs.declared.instruction.Instr.{Instr}
use Rattle.sm_plan_code.specs.declared.instruction.Instr.TheVariants.{PrepareAdd, PrepareDrop, Add, Drop, Change, Publish, Unlist, Signal, Wait}
use Rattle.sm_plan_code.specs.declared.call.ServerCall.{ServerCall}
use Rattle.sm_plan_code.specs.Instr.{is_call, shard_of}
use Rattle.sm_plan_code.specs.Acts.{call_again, call_of, next_call, numbers_after}
use Rattle.sm_plan_code.specs.Plan.{PlanModel}
use Rattle.sm_protocol.specs.declared.event.Event.TheVariants as event
use Rattle.sm_protocol.specs.declared.event.Passage.{Passage}
use Rattle.sm_protocol.specs.declared.event.Played.TheVariants as played
use Rattle.sm_protocol.specs.State.{Progress, Start, State, is_begun, no_start, plan_at, progress_of, set_progress, stream_parts}
use Rattle.sm_verifier.specs.Stream.{no_stream}
use Rattle.sm_protocol.specs.Steps.{ahead_of_call, behind_call, call_lost, call_number, served_try, tried_more}
use Rattle.sm_protocol.specs.Happens.{Happening, happens, refilled, run, started}
use Rattle.sm_protocol.specs.Laws.{AllFit}
use Rattle.sm_protocol.proofs.Invariant.{IsKept}
use Rattle.sm_protocol.proofs.Cases.{IsBefore, IsTry, OfSteps, answer_to, of_happens}
use Rattle.sm_protocol.proofs.Courses.{some_same}
use Rattle.sm_protocol.proofs.Numbers.{each_stream, goes_on}
use Rattle.sm_protocol.proofs.LogRoom.{begun_parts, begun_stays, plan_before}
use Rattle.sm_protocol.proofs.Reached.{same_machine}
use Rattle.sm_protocol.proofs.Tries.{by_answer}
use Rattle.sm_protocol.proofs.Whole.{happens_keeps}
use Rattle.laws_calls.proofs.Crowns.{IsHandover, number_stays}

-- the call of an instruction at these highest handover numbers, by whether it has had its effect
abbrev pub call_at : (ℕ → ℕ) → Bool → Instr → Option ServerCall
call_at numbers ahead i = if ahead then call_again numbers i (shard_of i) else next_call numbers i

-- what has a call to be tried is a call
pub is_tried : (numbers : ℕ → ℕ) (ahead : Bool) (i : Instr) (x : ServerCall) → call_at numbers ahead i ≡ Some x → is_call i ≡ true
is_tried numbers true (Publish s) x e = cc
is_tried numbers false (Publish s) x e = cc
is_tried numbers true (Unlist s) x e = cc
is_tried numbers false (Unlist s) x e = cc
is_tried numbers true (Signal q) x e = cc
is_tried numbers false (Signal q) x e = cc
is_tried numbers true (Wait q) x e = cc
is_tried numbers false (Wait q) x e = cc
is_tried numbers _ _ x e = refl

-- a call that has just had its effect is made again as it was
again_is : (numbers : ℕ → ℕ) (i : Instr) → call_again (numbers_after numbers i) i (shard_of i) ≡ next_call numbers i
again_is numbers (PrepareAdd s v u) = ap (call_of (PrepareAdd s v u)) (put-here numbers s (numbers s + 1) s refl)
again_is numbers (PrepareDrop s u v) = refl
again_is numbers (Add s v role) = refl
again_is numbers (Drop s v) = refl
again_is numbers (Change s v role) = refl
again_is numbers (Publish s) = refl
again_is numbers (Unlist s) = refl
again_is numbers (Signal q) = refl
again_is numbers (Wait q) = refl

-- a call is the same at other numbers, if the number that it carries is
same_call : (numbers new : ℕ → ℕ) (i : Instr) → ((s u : ℕ) → IsHandover i s u → new s ≡ numbers s) → (ahead : Bool) → call_at new ahead i ≡ call_at numbers ahead i
same_call numbers new (PrepareAdd s v u) same true = ap (call_of (PrepareAdd s v u)) (same s u (refl, refl))
same_call numbers new (PrepareAdd s v u) same false = ap (λ n. call_of (PrepareAdd s v u) (n + 1)) (same s u (refl, refl))
same_call numbers new (PrepareDrop s u v) same true = ap (call_of (PrepareDrop s u v)) (same s u (refl, refl))
same_call numbers new (PrepareDrop s u v) same false = ap (call_of (PrepareDrop s u v)) (same s u (refl, refl))
same_call numbers new (Add s v role) same true = refl
same_call numbers new (Add s v role) same false = refl
same_call numbers new (Drop s v) same true = refl
same_call numbers new (Drop s v) same false = refl
same_call numbers new (Change s v role) same true = refl
same_call numbers new (Change s v role) same false = refl
same_call numbers new (Publish s) same true = refl
same_call numbers new (Publish s) same false = refl
same_call numbers new (Unlist s) same true = refl
same_call numbers new (Unlist s) same false = refl
same_call numbers new (Signal q) same true = refl
same_call numbers new (Signal q) same false = refl
same_call numbers new (Wait q) same true = refl
same_call numbers new (Wait q) same false = refl

-- ---- a stream that stands before a call

-- At a state a stream that has come so far stands at this position, before this instruction, and this is its call. If it is tried under a number, it
-- has this one under way; 0 stands for none.
pub record IsStanding (w : State) (id : StreamId) (at : ℕ) (i : Instr) (x : ServerCall) (n : ℕ) (z : Progress) : Type 0 where
  pub begun : is_begun w id ≡ true
  pub running : z.done ≡ false
  pub at_is : z.at ≡ at
  pub next_is : slice_get (stream_parts w id).code z.at ≡ Some i
  pub call_is : call_at w.numbers z.ahead i ≡ Some x
  pub pending : n ≢ 0 → z.pending ≡ n

-- or it has gone on
abbrev pub IsThere : State → StreamId → ℕ → Instr → ServerCall → ℕ → Progress → Type 0
IsThere w id at i x n z = (at < z.at) ⊎ IsStanding w id at i x n z

-- the stream's instruction is the one before which it stands
pub is_before : (w : State) (id : StreamId) (at : ℕ) (i : Instr) (x : ServerCall) (n : ℕ) → IsStanding w id at i x n (progress_of w id) → IsBefore w id (Some i)
is_before w id at i x n s = record { begun = s.begun; running = s.running; next_is = s.next_is }

-- a try of a stream that has a call under way is under its number
pub under_way : (w : State) (z : Progress) (n : ℕ) → n ≢ 0 → z.pending ≡ n → call_number w z ≡ n
under_way w z n some e = (rw (ne_eqb z.pending 0 (λ h. some (sym e ∙ h))) refl) ∙ e

module _ (w : State) (v : IsKept w) (id : StreamId) (at : ℕ) (i : Instr) (x : ServerCall) (n : ℕ) (s : IsStanding w id at i x n (progress_of w id)) where
  abbrev now : Progress
  now = progress_of w id

  before : IsBefore w id (Some i)
  before = is_before w id at i x n s

  -- no other instruction is its next one
  only : (o : Option Instr) → IsBefore w id o → Some i ≡ o
  only o b = sym s.next_is ∙ b.next_is

  -- ---- its own tries

  -- one is lost on its way
  pub lost : (m : ℕ) → (m ≢ 0 → call_number w now ≡ m) → IsStanding (call_lost w id) id at i x m (record (tried_more now false) { pending = call_number w now })
  lost m under = record { begun = s.begun; running = s.running; at_is = s.at_is; next_is = s.next_is; call_is = s.call_is; pending = under }

  -- the answer of one is lost
  pub unanswered : (j : Instr) (y : ServerCall) (effect : CallEffect) → IsTry w id j y → answer_to w id y ≡ Ok effect → (m : ℕ) → (m ≢ 0 → call_number w now ≡ m) →
      IsStanding (served_try w id j effect (ahead_of_call w now effect.fresh) (event.Lose id true) played.Lost) id at i x m (ahead_of_call w now effect.fresh)
  unanswered j y effect t e m under =
      let same : i ≡ j = some_same i j (only (Some j) t.before) in
      record {
        begun = s.begun;
        running = s.running;
        at_is = s.at_is;
        next_is = s.next_is;
        call_is = by_answer w v id j y t effect e (λ f. call_again (if f.fresh then numbers_after w.numbers j else w.numbers) i (shard_of i) ≡ Some x)
            (λ a. subst (λ k. call_again (numbers_after w.numbers k) i (shard_of i) ≡ Some x) same (again_is w.numbers i ∙ (rw a at s.call_is)))
            (λ a. rw a at s.call_is);
        pending = under;
      }

  -- ---- all events

  -- the stream stands as it stood, and others leave what its call carries
  still : (new : State) → new.plans ≡ w.plans → ((r u : ℕ) → IsHandover i r u → new.numbers r ≡ w.numbers r) → IsStanding new id at i x n now
  still new plans numbers = record {
    begun = subst (λ (ps : List Start). (nat_lt id.plan (length ps) && nat_lt id.stream (length (slice_index_or ps id.plan no_start).plan.streams)) ≡ true) (sym plans) s.begun;
    running = s.running;
    at_is = s.at_is;
    next_is = subst (λ (ps : List Start). slice_get (slice_index_or (slice_index_or ps id.plan no_start).plan.streams id.stream no_stream).code now.at ≡ Some i) (sym plans) s.next_is;
    call_is = same_call w.numbers new.numbers i numbers now.ahead ∙ s.call_is;
    pending = s.pending;
  }

  -- a stream goes on
  goes : (who : StreamId) (y : Progress) (new : State) → new.plans ≡ w.plans → progress_of new ≡ (λ a. set_progress w who y a.plan a.stream) →
      (who ≢ id → (r u : ℕ) → IsHandover i r u → new.numbers r ≡ w.numbers r) → (who ≡ id → IsThere new id at i x n y) → IsThere new id at i x n (progress_of new id)
  goes who y new plans g numbers own = subst (λ (f : StreamId → Progress). IsThere new id at i x n (f id)) (sym g)
      (each_stream (goes_on w who y) (λ a z. a ≡ id → IsThere new id at i x n z) own
      (λ a apart e. subst (λ b. IsThere new id at i x n (progress_of w b)) (sym e) (inr (still new plans (numbers (λ q. apart (e ∙ sym q)))))) id refl)

  -- a stream goes on, and no number changes
  steps : (who : StreamId) (y : Progress) (new : State) → new.plans ≡ w.plans → progress_of new ≡ (λ a. set_progress w who y a.plan a.stream) → new.numbers ≡ w.numbers →
      (who ≡ id → IsThere new id at i x n y) → IsThere new id at i x n (progress_of new id)
  steps who y new plans g numbers = goes who y new plans g (λ apart r u is. ap (λ (f : ℕ → ℕ). f r) numbers)

  -- it makes no instruction that is no call
  no_other : (who : StreamId) (j : Instr) → IsBefore w who (Some j) → is_call j ≡ false → who ≡ id → ⊥
  no_other who j b other q =
      let same : i ≡ j = some_same i j (only (Some j) (subst (λ a. IsBefore w a (Some j)) q b)) in
      let call : is_call j ≡ true = ap is_call (sym same) ∙ is_tried w.numbers now.ahead i x s.call_is in
      absurd (cc)

  -- a call of another stream leaves what this one's carries
  leaves : (who : StreamId) (j : Instr) → IsBefore w who (Some j) → who ≢ id → (fresh : Bool) (r u : ℕ) → IsHandover i r u → (if fresh then numbers_after w.numbers j else w.numbers) r ≡ w.numbers r
  leaves who j b apart true r u is = number_stays w v id who i j apart before b r u is
  leaves who j b apart false r u is = refl

  kept_under : n ≢ 0 → call_number w now ≡ n
  kept_under some = under_way w now n some (s.pending some)

  by_steps : (who : StreamId) (passage : Passage) → OfSteps w who passage (λ o. IsThere o.1 id at i x n (progress_of o.1 id))
  by_steps who passage = record {
    idle = λ answer. inr s;
    refused = λ j y why t e. inr s;
    at_end = λ b. steps who (record (progress_of w who) { done = true }) _ refl refl refl (λ q. absurd (let e = only None (subst (λ a. IsBefore w a None) q b) in cc));
    publishes = λ j r server b c. steps who (record (progress_of w who) { at = (progress_of w who).at + 1 }) _ refl refl refl (λ q. absurd (no_other who j b c q));
    posts = λ q b. steps who (record (progress_of w who) { at = (progress_of w who).at + 1 }) _ refl refl refl (λ e. absurd (no_other who (Signal q) b refl e));
    awaits = λ q b p. steps who (record (progress_of w who) { at = (progress_of w who).at + 1 }) _ refl refl refl (λ e. absurd (no_other who (Wait q) b refl e));
    lost = λ j y t p. steps who (record (tried_more (progress_of w who) false) { pending = call_number w (progress_of w who) }) _ refl refl refl
        (λ q. subst (λ a. IsThere (call_lost w a) id at i x n (record (tried_more (progress_of w a) false) { pending = call_number w (progress_of w a) })) (sym q) (inr (lost n kept_under)));
    through = λ j y effect t a p. goes who (behind_call (progress_of w who) effect.fresh) _ refl refl (λ apart. leaves who j t.before apart effect.fresh)
        (λ q. let e = ap (λ b. (progress_of w b).at) q ∙ s.at_is in inl (omega arith));
    unanswered = λ j y effect t a p. goes who (ahead_of_call w (progress_of w who) effect.fresh) _ refl refl (λ apart. leaves who j t.before apart effect.fresh)
        (λ q. own_unanswered who j y effect q t a);
  }
    where
      own_unanswered : (who : StreamId) (j : Instr) (y : ServerCall) (effect : CallEffect) → who ≡ id → IsTry w who j y → answer_to w who y ≡ Ok effect →
          IsThere (served_try w who j effect (ahead_of_call w (progress_of w who) effect.fresh) (event.Lose who true) played.Lost) id at i x n (ahead_of_call w (progress_of w who) effect.fresh)
      own_unanswered who j y effect q = subst (λ a. IsTry w a j y → answer_to w a y ≡ Ok effect →
          IsThere (served_try w a j effect (ahead_of_call w (progress_of w a) effect.fresh) (event.Lose a true) played.Lost) id at i x n (ahead_of_call w (progress_of w a) effect.fresh)) (sym q)
          (λ t e. inr (unanswered j y effect t e n kept_under))

  -- a plan starts
  starts : (plan : PlanModel) → IsStanding (started w plan) id at i x n now
  starts plan =
      let b = begun_parts w id s.begun in
      let p : plan_at (started w plan) id.plan ≡ plan_at w id.plan = plan_before w plan id.plan b.0 in
      record {
        begun = begun_stays w plan id s.begun;
        running = s.running;
        at_is = s.at_is;
        next_is = subst (λ (x : PlanModel). slice_get (slice_index_or x.streams id.stream no_stream).code now.at ≡ Some i) (sym p) s.next_is;
        call_is = s.call_is;
        pending = s.pending;
      }

  -- after an event it stands before the same call, or has gone on
  stands_after : (e : Happening) → IsThere (happens w e).1 id at i x n (progress_of (happens w e).1 id)
  stands_after e = of_happens w (λ e o. IsThere o.1 id at i x n (progress_of o.1 id)) (record {
    idle = λ e answer q. inr s;
    steps = λ who. by_steps who _;
    loses = λ who after. by_steps who _;
    refills = λ who more f. steps who (record (progress_of w who) { refills = (progress_of w who).refills + more }) _ refl refl refl
        (λ q. subst (λ a. IsThere (refilled w a more None).1 id at i x n (record (progress_of w a) { refills = (progress_of w a).refills + more })) (sym q)
        (inr (record { begun = s.begun; running = s.running; at_is = s.at_is; next_is = s.next_is; call_is = s.call_is; pending = s.pending })));
    arrives = λ r u f. inr (still _ refl (λ q o is. refl));
    passes_on = λ t o f. inr (still _ refl (λ q u is. refl));
    approves = λ u f. inr (still _ refl (λ q o is. refl));
    restarts = λ u f. inr (still _ refl (λ q o is. refl));
    starts = λ plan h f g. inr (starts plan);
  }) e

-- ---- lists of events

-- no stream goes back
never_back : (w : State) (e : Happening) (id : StreamId) → (progress_of w id).at ≤ (progress_of (happens w e).1 id).at
never_back w e = of_happens w (λ e o. (id : StreamId) → (progress_of w id).at ≤ (progress_of o.1 id).at) (record {
  idle = λ e answer n id. omega arith;
  steps = λ who. on_by_steps who _;
  loses = λ who after. on_by_steps who _;
  refills = λ who more f. on who (record (progress_of w who) { refills = (progress_of w who).refills + more }) (omega arith);
  arrives = λ s u f id. omega arith;
  passes_on = λ t o f id. omega arith;
  approves = λ u f id. omega arith;
  restarts = λ u f id. omega arith;
  starts = λ plan h f g id. omega arith;
}) e
  where
    on : (who : StreamId) (y : Progress) → (progress_of w who).at ≤ y.at → (id : StreamId) → (progress_of w id).at ≤ (set_progress w who y id.plan id.stream).at
    on who y l = each_stream (goes_on w who y) (λ a z. (progress_of w a).at ≤ z.at) l (λ a apart. omega arith)

    on_by_steps : (who : StreamId) (passage : Passage) → OfSteps w who passage (λ o. (id : StreamId) → (progress_of w id).at ≤ (progress_of o.1 id).at)
    on_by_steps who passage = record {
      idle = λ answer id. omega arith;
      refused = λ i x why t e id. omega arith;
      at_end = λ b. on who (record (progress_of w who) { done = true }) (omega arith);
      publishes = λ i s server b c. on who (record (progress_of w who) { at = (progress_of w who).at + 1 }) (omega arith);
      posts = λ q b. on who (record (progress_of w who) { at = (progress_of w who).at + 1 }) (omega arith);
      awaits = λ q b p. on who (record (progress_of w who) { at = (progress_of w who).at + 1 }) (omega arith);
      lost = λ i x t p. on who (record (tried_more (progress_of w who) false) { pending = call_number w (progress_of w who) }) (omega arith);
      through = λ i x effect t a p. on who (behind_call (progress_of w who) effect.fresh) (omega arith);
      unanswered = λ i x effect t a p. on who (ahead_of_call w (progress_of w who) effect.fresh) (omega arith);
    }

-- after a list of events the stream stands before the same call, or has gone on
pub there_after : (es : List Happening) (w : State) → IsKept w → AllFit w.sizes es → (id : StreamId) (at : ℕ) (i : Instr) (x : ServerCall) (n : ℕ) →
    IsThere w id at i x n (progress_of w id) → IsThere (run es w) id at i x n (progress_of (run es w) id)
there_after [] w v fit id at i x n t = t
there_after (e ∷ es) w v fit id at i x n t =
    there_after es (happens w e).1 (happens_keeps w v e fit.0).1 (subst (λ c. AllFit c es) (sym (same_machine w e).sizes) fit.1) id at i x n (elim t [
      | inl past ↦ inl (let l = never_back w e id in omega arith)
      | inr s ↦ stands_after w v id at i x n s e
    ])
