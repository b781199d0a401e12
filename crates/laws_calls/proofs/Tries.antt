-- The laws of tries, from the invariant of the protocol.
use Rattle.std.proofs.Common.{◌≡◌, ◌≢◌, ◌⊎◌, ℕ, ◌+◌, ◌<◌, arith, Bool, true, false, not, refl, sym, ap, ◌∙◌, inl, inr, subst, Option, Some, None, Result, Ok, Err, List, ◌++◌, length, length-append}
use Rattle.std.specs.Prelude.{◌==◌, if◌then◌else◌, replicate}
use Rattle.std.proofs.lemmas.Bool.{and_from, and_parts, not-true}
use Rattle.std.proofs.lemmas.List.{length-replicate}
use Rattle.sm_server.specs.declared.call.Refusal.{Refusal}
use Rattle.sm_placement.specs.Place.{CallEffect}
use Rattle.sm_placement.specs.Setup.{Setup}
use Rattle.sm_placement.proofs.Sums.{put2-here}
use Rattle.sm_reservation.specs.declared.stream_id.StreamId.{StreamId}
use Rattle.sm_plan_code.specs.declared.instruction.Instr.{Instr}
use Rattle.sm_plan_code.specs.declared.instruction.Instr.TheVariants.{PrepareAdd, PrepareDrop, Add, Drop, Change, Publish, Unlist, Signal, Wait}
use Rattle.sm_plan_code.specs.declared.call.ServerCall.{ServerCall}
use Rattle.sm_plan_code.specs.Instr.{is_call}
use Rattle.sm_protocol.specs.declared.event.Event.TheVariants as event
use Rattle.sm_protocol.specs.declared.event.Passage.{Passage}
use Rattle.sm_protocol.specs.declared.event.Passage.TheVariants.{LostAfter, LostBefore, Through}
use Rattle.sm_protocol.specs.declared.event.Played.{Played}
use Rattle.sm_protocol.specs.declared.event.Played.TheVariants as played
use Rattle.sm_protocol.specs.State.{Progress, State, allowance, is_begun, is_running, next_instruction, progress_of}
use Rattle.sm_protocol.specs.Steps.{Answered, Outcome, ahead_of_call, call_lost, call_number, call_to_make, call_tried, made, served_try, step, tried, tried_more, unchanged}
use Rattle.sm_protocol.specs.Happens.{Lose, Step, happens}
use Rattle.sm_protocol.specs.Safe.{unhalted}
use Rattle.sm_protocol.specs.Laws.{AllFit, EachReached, IsReached}
use Rattle.sm_protocol.proofs.Invariant.{IsKept, code_of}
use Rattle.sm_protocol.proofs.Cases.{IsBefore, IsTry, answer_to, parcel_taken}
use Rattle.sm_protocol.proofs.Courses.{some_same}
use Rattle.sm_protocol.proofs.Numbers.{goes_on, is_try_number}
use Rattle.sm_protocol.proofs.LogEnds.{end_made, is_logged}
use Rattle.sm_protocol.proofs.Reached.{reached_next, reached_run}
use Rattle.sm_protocol.proofs.Tries.{again_goes_to, by_answer, first_effect}
use Rattle.sm_protocol.proofs.Whole.{reached_keeps, unhalted_keeps}
use Rattle.laws_calls.specs.Tries.{CallsStay, FurtherTriesRepeat, HasHeard, IsUnanswered, LeavesNumbers, Try, call_for, tried_next, try_of}
use Rattle.laws_calls.proofs.Standing.{IsStanding, is_before, is_tried, lost, there_after, unanswered, under_way}

-- ---- the call that a stream tries next

-- a stream that has a call to try stands before its instruction
record IsBeforeCall (w : State) (id : StreamId) (x : ServerCall) : Type 0 where
  pub instr : Instr
  pub stands : IsStanding w id (progress_of w id).at instr x 0 (progress_of w id)

stands_before : (w : State) (id : StreamId) (x : ServerCall) → tried_next w id ≡ Some x → IsBeforeCall w id x
stands_before w id x e = go (is_running w id) refl (next_instruction w id) refl e
  where
    go : (r : Bool) → is_running w id ≡ r → (o : Option Instr) → next_instruction w id ≡ o → call_for w id (if r then o else None) ≡ Some x → IsBeforeCall w id x
    go false q o f e = absurd (cc)
    go true q None f e = absurd (cc)
    go true q (Some i) f e =
        let p = and_parts (is_begun w id) (not (progress_of w id).done) q in
        record {
          instr = i;
          stands = record { begun = p.0; running = not-true (progress_of w id).done p.1; at_is = refl; next_is = f; call_is = e; pending = λ n. absurd (n refl) };
        }

-- and one that stands there has this call to try
next_of : (w : State) (id : StreamId) (at : ℕ) (i : Instr) (x : ServerCall) (n : ℕ) → IsStanding w id at i x n (progress_of w id) → tried_next w id ≡ Some x
next_of w id at i x n s =
    ap (λ b. call_for w id (if b then next_instruction w id else None)) (and_from (is_begun w id) (not (progress_of w id).done) s.begun (ap not s.running))
    ∙ ap (call_for w id) s.next_is ∙ s.call_is

-- ---- what comes until the stream makes its step

-- the halt flag is no part of where a stream stands
flag_aside : (w : State) (id : StreamId) (at : ℕ) (i : Instr) (x : ServerCall) (n : ℕ) (z : Progress) → IsStanding w id at i x n z → IsStanding (unhalted w) id at i x n z
flag_aside w id at i x n z s = record { begun = s.begun; running = s.running; at_is = s.at_is; next_is = s.next_is; call_is = s.call_is; pending = s.pending }

flag_back : (w : State) (id : StreamId) (at : ℕ) (i : Instr) (x : ServerCall) (n : ℕ) (z : Progress) → IsStanding (unhalted w) id at i x n z → IsStanding w id at i x n z
flag_back w id at i x n z s = record { begun = s.begun; running = s.running; at_is = s.at_is; next_is = s.next_is; call_is = s.call_is; pending = s.pending }

reached_unhalted : (setup : Setup) (w : State) → IsReached setup w → IsReached setup (unhalted w)
reached_unhalted setup w r = record { place = r.place; room = r.room; events = r.events; opening = r.opening; fit = r.fit; state = r.state }

-- the answers to the steps that a stream which has come so far has made
abbrev all_steps : Progress → List Played
all_steps z = replicate z.at played.Moved ++ end_made z.done

-- as many steps are in the log as the stream has instructions behind it, and its end
count_made : (z : Progress) → length (all_steps z) ≡ z.at + length (end_made z.done)
count_made z = length-append (replicate z.at played.Moved) (end_made z.done) ∙ ap (λ n. n + length (end_made z.done)) (length-replicate z.at played.Moved)

module _ (setup : Setup) (w new : State) (id : StreamId) (i : Instr) (x : ServerCall) (n : ℕ) (reached : IsReached setup w)
    (s : IsStanding w id (progress_of w id).at i x n (progress_of w id)) (u : IsUnanswered setup id w new) where
  kept : IsKept w
  kept = (reached_keeps setup w reached).0

  fits : AllFit w.sizes u.events
  fits = subst (λ c. AllFit c u.events) (sym (reached_keeps setup w reached).1) u.fit

  is_reached : IsReached setup (unhalted new)
  is_reached = subst (IsReached setup) (sym u.state) (reached_run setup u.events (unhalted w) (reached_unhalted setup w reached) fits)

  -- its steps in the log are as many as before
  not_past : (progress_of w id).at < (progress_of new id).at → ⊥
  not_past l =
      let was : length (all_steps (progress_of w id)) ≡ (progress_of w id).at + 0 = count_made (progress_of w id) ∙ ap (λ b. (progress_of w id).at + length (end_made b)) s.running in
      let is = count_made (progress_of new id) in
      let same : length (all_steps (progress_of new id)) ≡ length (all_steps (progress_of w id)) =
      ap length (sym ((is_logged setup (unhalted new) is_reached).steps id) ∙ u.steps ∙ (is_logged setup w reached).steps id) in
      absurd (omega arith)

  -- so it stands where it stood
  still_stands : IsStanding new id (progress_of w id).at i x n (progress_of new id)
  still_stands = elim (subst (λ (y : State). ((progress_of w id).at < (progress_of y id).at) ⊎ IsStanding y id (progress_of w id).at i x n (progress_of y id)) (sym u.state)
      (there_after u.events (unhalted w) (unhalted_keeps w kept) fits id (progress_of w id).at i x n (inr (flag_aside w id _ i x n _ s)))) [
        | inl past ↦ absurd (not_past past)
        | inr stands ↦ flag_back new id _ i x n _ stands
      ]

-- the call that a stream stands before stays
pub calls_stay : CallsStay
calls_stay setup w new id x reached e u =
    let b = stands_before w id x e in
    next_of new id (progress_of w id).at b.instr x 0 (still_stands setup w new id b.instr x 0 reached b.stands u)

-- ---- a try that is lost

-- a step by which a call is lost is a try of it
record IsLostTry (w : State) (id : StreamId) (passage : Passage) (o : Outcome × State) : Type 0 where
  pub instr : Instr
  pub call : ServerCall
  pub is_try : IsTry w id instr call
  pub made : o ≡ tried w id instr passage (answer_to w id call)

module _ (w : State) (id : StreamId) (passage : Passage) where
  abbrev ByLoss : Outcome × State → Type 0
  ByLoss o = o.0 ≡ Answered played.Lost → IsLostTry w id passage o

  by_call : (i : Instr) → IsBefore w id (Some i) → is_call i ≡ true → (o : Option ServerCall) → call_to_make w (progress_of w id) i ≡ o → ByLoss (call_tried w id passage i o)
  by_call i b c None e = λ l. absurd (cc)
  by_call i b c (Some x) e = by_tries ((progress_of w id).tries == allowance w id) refl
    where
      by_tries : (t : Bool) → ((progress_of w id).tries == allowance w id) ≡ t → ByLoss (if t then unchanged w played.Spent else tried w id i passage (answer_to w id x))
      by_tries true f l = absurd (cc)
      by_tries false f l = record { instr = i; call = x; is_try = record { before = b; call = c; unspent = f; call_is = e }; made = refl }

  by_next : (o : Option Instr) → IsBefore w id o → ByLoss (made w id passage o)
  by_next None b = λ l. absurd (cc)
  by_next (Some (Publish s)) b = λ l. absurd (cc)
  by_next (Some (Unlist s)) b = λ l. absurd (cc)
  by_next (Some (Signal q)) b = λ l. absurd (cc)
  by_next (Some (Wait q)) b = by_mark (w.marks id.plan q).posted
    where
      by_mark : (t : Bool) → ByLoss (if t then (Answered played.Moved, parcel_taken w id q) else unchanged w (played.Blocked q))
      by_mark true l = absurd (cc)
      by_mark false l = absurd (cc)
  by_next (Some (PrepareAdd s v u)) b = by_call (PrepareAdd s v u) b refl _ refl
  by_next (Some (PrepareDrop s u v)) b = by_call (PrepareDrop s u v) b refl _ refl
  by_next (Some (Add s v role)) b = by_call (Add s v role) b refl _ refl
  by_next (Some (Drop s v)) b = by_call (Drop s v) b refl _ refl
  by_next (Some (Change s v role)) b = by_call (Change s v role) b refl _ refl

  by_step : ByLoss (step w id passage)
  by_step = by_flag w.halted
    where
      by_done : (d : Bool) → is_begun w id ≡ true → (progress_of w id).done ≡ d → ByLoss (if d then unchanged w played.Done else made w id passage (next_instruction w id))
      by_done true b e = λ l. absurd (cc)
      by_done false b e = by_next (next_instruction w id) (record { begun = b; running = e; next_is = refl })

      by_begun : (b : Bool) → is_begun w id ≡ b → ByLoss (if b then (if (progress_of w id).done then unchanged w played.Done else made w id passage (next_instruction w id)) else unchanged w played.Unknown)
      by_begun true e = by_done (progress_of w id).done e refl
      by_begun false e = λ l. absurd (cc)

      by_flag : (h : Bool) → ByLoss (if h then unchanged w played.Halted
          else if is_begun w id then (if (progress_of w id).done then unchanged w played.Done else made w id passage (next_instruction w id))
          else unchanged w played.Unknown)
      by_flag true = λ l. absurd (cc)
      by_flag false = by_begun (is_begun w id) refl

module _ (w : State) (v : IsKept w) (id : StreamId) (i : Instr) (x : ServerCall) (t : IsTry w id i x) where
  -- it stands there
  tries_there : IsStanding w id (progress_of w id).at i x 0 (progress_of w id)
  tries_there = record { begun = t.before.begun; running = t.before.running; at_is = refl; next_is = t.before.next_is; call_is = t.call_is; pending = λ n. absurd (n refl) }

  -- and it does behind a lost try, with its number under way
  behind_loss : (after : Bool) (a : Result CallEffect Refusal) → answer_to w id x ≡ a →
      let o = tried w id i (if after then LostAfter else LostBefore) a in
      o.0 ≡ Answered played.Lost → IsStanding o.1 id (progress_of w id).at i x (call_number w (progress_of w id)) (progress_of o.1 id)
  behind_loss false a e l =
      let y : Progress = record (tried_more (progress_of w id) false) { pending = call_number w (progress_of w id) } in
      subst (IsStanding (call_lost w id) id (progress_of w id).at i x (call_number w (progress_of w id))) (sym (goes_on w id y).here)
      (lost w v id (progress_of w id).at i x 0 tries_there (call_number w (progress_of w id)) (λ n. refl))
  behind_loss true (Ok effect) e l =
      let y = ahead_of_call w (progress_of w id) effect.fresh in
      subst (IsStanding (served_try w id i effect y (event.Lose id true) played.Lost) id (progress_of w id).at i x (call_number w (progress_of w id))) (sym (goes_on w id y).here)
      (unanswered w v id (progress_of w id).at i x 0 tries_there i x effect t e (call_number w (progress_of w id)) (λ n. refl))
  behind_loss true (Err why) e l = absurd (cc)

-- the next try is the one that was lost
pub further_tries_repeat : FurtherTriesRepeat
further_tries_repeat setup w new id after reached is_lost u =
    let v = (reached_keeps setup w reached).0 in
    let l = by_step w id (if after then LostAfter else LostBefore) is_lost in
    let n = call_number w (progress_of w id) in
    let positive : n ≢ 0 = (is_try_number w.place.last w.next_number (code_of w) (progress_of w) v.numbered id).positive in
    let first = (happens w (Lose id after)).1 in
    let stands : IsStanding first id (progress_of w id).at l.instr l.call n (progress_of first id) =
    subst (λ (o : Outcome × State). o.0 ≡ Answered played.Lost → IsStanding o.1 id (progress_of w id).at l.instr l.call n (progress_of o.1 id)) (sym l.made)
    (behind_loss w v id l.instr l.call l.is_try after (answer_to w id l.call) refl) is_lost in
    let at : (progress_of first id).at ≡ (progress_of w id).at = stands.at_is in
    let now : IsStanding first id (progress_of first id).at l.instr l.call n (progress_of first id) = subst (λ k. IsStanding first id k l.instr l.call n (progress_of first id)) (sym at) stands in
    let s = still_stands setup first new id l.instr l.call n (reached_next setup w (Lose id after) reached tt) now u in
    let t : Try = record { at = (progress_of w id).at; call = l.call; number = n } in (
      t,
      ap (try_of w id) (next_of w id (progress_of w id).at l.instr l.call 0 (tries_there w v id l.instr l.call l.is_try)),
      ap (try_of new id) (next_of new id (progress_of first id).at l.instr l.call n s)
          ∙ ap (λ k. let y : Try = record { at = k; call = l.call; number = call_number new (progress_of new id) } in Some y) (s.at_is ∙ at)
          ∙ ap (λ k. let y : Try = record { at = (progress_of w id).at; call = l.call; number = k } in Some y) (under_way new (progress_of new id) n positive (s.pending positive)),
    )

-- ---- the number of a try that comes to its server

-- what a step of a stream before a call is, unless the machine is halted
call_of_step : (w : State) (id : StreamId) (passage : Passage) (i : Instr) → is_call i ≡ true → made w id passage (Some i) ≡ call_tried w id passage i (call_to_make w (progress_of w id) i)
call_of_step w id passage (Publish s) e = absurd (cc)
call_of_step w id passage (Unlist s) e = absurd (cc)
call_of_step w id passage (Signal q) e = absurd (cc)
call_of_step w id passage (Wait q) e = absurd (cc)
call_of_step w id passage _ e = refl

-- the answers of tries
abbrev IsAnswered : Played → Type 0
IsAnswered played.Moved = Unit {0}
IsAnswered played.Lost = Unit {0}
IsAnswered _ = ⊥

module _ (w : State) (v : IsKept w) (id : StreamId) (i : Instr) (x : ServerCall) (s : IsStanding w id (progress_of w id).at i x 0 (progress_of w id)) where
  abbrev mine : Try
  mine = record { at = (progress_of w id).at; call = x; number = call_number w (progress_of w id) }

  -- the answer's placement has the number
  number_left : (effect : CallEffect) → IsTry w id i x → answer_to w id x ≡ Ok effect → effect.place.last x.shard x.server ≡ call_number w (progress_of w id)
  number_left effect t e = by_answer w v id i x t effect e (λ f. f.place.last x.shard x.server ≡ call_number w (progress_of w id))
      (λ a. put2-here (first_effect w v id i x t a).effect.next_place.last x.shard x.server (call_number w (progress_of w id)))
      (λ a.
      let to = again_goes_to w.numbers i x (rw a at s.call_is) in
      let number = is_try_number w.place.last w.next_number (code_of w) (progress_of w) v.numbered id in
      v.numbered.had id i x.shard x.server a s.next_is to.0 ∙ sym (number.kept a).0)

  module _ (passage : Passage) (comes : passage ≢ LostBefore) (answer : Played) (is : IsAnswered answer) where
    abbrev Leaves : Outcome × State → Type 0
    Leaves o = o.0 ≡ Answered answer → HasHeard o.1 mine

    by_passage : (p : Passage) → passage ≡ p → IsTry w id i x → (a : Result CallEffect Refusal) → answer_to w id x ≡ a → Leaves (tried w id i p a)
    by_passage LostBefore q t a e = absurd (comes q)
    by_passage Through q t (Ok effect) e = λ l. number_left effect t e
    by_passage Through q t (Err why) e = λ l. absurd (cc)
    by_passage LostAfter q t (Ok effect) e = λ l. number_left effect t e
    by_passage LostAfter q t (Err why) e = λ l. absurd (cc)

    quiet : (other : Played) → (IsAnswered other → ⊥) → Leaves (unchanged w other)
    quiet other n l = absurd (n (subst IsAnswered (answers_same l) is))
      where
        answers_same : Answered other ≡ Answered answer → answer ≡ other
        answers_same l = cc

    by_spent : (b : Bool) → ((progress_of w id).tries == allowance w id) ≡ b → Leaves (if b then unchanged w played.Spent else tried w id i passage (answer_to w id x))
    by_spent true e = quiet played.Spent (λ n. n)
    by_spent false e = by_passage passage refl (record { before = is_before w id _ i x 0 s; call = is_tried w.numbers (progress_of w id).ahead i x s.call_is; unspent = e; call_is = s.call_is }) (answer_to w id x) refl

    by_halt : (h : Bool) → w.halted ≡ h → Leaves (step w id passage)
    by_halt true h = subst Leaves (sym (under_flag h)) (quiet played.Halted (λ n. n))
      where
        under_flag : w.halted ≡ true → step w id passage ≡ unchanged w played.Halted
        under_flag h = rw h refl
    by_halt false h = subst Leaves (sym (is_made h)) (by_spent ((progress_of w id).tries == allowance w id) refl)
      where
        is_made : w.halted ≡ false → step w id passage ≡ call_tried w id passage i (Some x)
        is_made h =
            running_step h s.begun s.running ∙ ap (made w id passage) s.next_is
            ∙ call_of_step w id passage i (is_tried w.numbers (progress_of w id).ahead i x s.call_is) ∙ ap (call_tried w id passage i) s.call_is
          where
            running_step : w.halted ≡ false → is_begun w id ≡ true → (progress_of w id).done ≡ false → step w id passage ≡ made w id passage (next_instruction w id)
            running_step h b d = rw (h, b, d) refl

-- a try that comes to its server leaves its number there
pub tries_leave_numbers : EachReached LeavesNumbers
tries_leave_numbers setup w reached id t e = go (tried_next w id) refl e
  where
    v : IsKept w
    v = (reached_keeps setup w reached).0

    Both : Try → Type 0
    Both y = ((happens w (Step id)).0 ≡ Answered played.Moved → HasHeard (happens w (Step id)).1 y) × ((happens w (Lose id true)).0 ≡ Answered played.Lost → HasHeard (happens w (Lose id true)).1 y)

    go : (o : Option ServerCall) → tried_next w id ≡ o → try_of w id o ≡ Some t → Both t
    go None q e = absurd (cc)
    go (Some x) q e =
        let b = stands_before w id x q in
        subst Both (some_same _ t e) (
          by_halt w v id b.instr x b.stands Through (λ h. cc) played.Moved tt w.halted refl,
          by_halt w v id b.instr x b.stands LostAfter (λ h. cc) played.Lost tt w.halted refl,
        )
