-- A local step is recorded.
use Rattle.std.proofs.Common.{◌-◌, ◌<◌, ◌≤◌, ◌≡◌, ◌≢◌, ◌∙◌, ◌+◌, ◌++◌, ◌∷◌, [], Bool, true, false, not, Option, Some, None, List, length, map, refl, sym, ap, subst, arith}
use Rattle.std.specs.Prelude.{◌&&◌, is_none, if◌then◌else◌}
use Rattle.std.proofs.lemmas.Bool.{and_parts, not-true}
use Rattle.sm_reservation.specs.declared.stream_id.StreamId.{StreamId}
use Rattle.sm_plan_code.specs.declared.instruction.Instr.{Instr}
use Rattle.sm_plan_code.specs.declared.instruction.Instr.TheVariants as instr
use Rattle.sm_protocol.specs.State.{State, is_begun, is_running, next_instruction, progress_of}
use Rattle.sm_protocol.specs.declared.event.Played.TheVariants as played
use Rattle.sm_protocol.specs.declared.event.Logged.{Logged}
use Rattle.sm_protocol.specs.Steps.{Answered, Outcome, Refused, made, unchanged}
use Rattle.sm_protocol.specs.declared.event.Passage.TheVariants as passage
use Rattle.sm_protocol.specs.Next.{blocked_on, call_under, entry_by, instruction_before, next_call_of, next_entry_of, unposted}
use Rattle.sm_protocol.specs.Happens.{Step, happens, run}
use Rattle.sm_placement.specs.Setup.{Setup}
use Rattle.sm_protocol.specs.Laws.{IsReached}
use Rattle.sm_protocol.proofs.SmallNumbers.{numbers_stay_small}
use Rattle.sm_protocol.proofs.Starts.{length_push}
use Rattle.sm_protocol.specs.declared.event.Played.{Played}
use Rattle.sm_driver.specs.Advance.{AreNextFree, IsAdvanced, is_free, next_free}

-- one more event is recorded, and the log's room is as it was
pub record IsRecorded (w new : State) : Type 0 where
  pub more : length new.log ≡ length w.log + 1
  pub room : new.room ≡ w.room

one_more : (w : State) (x : Logged) → length (w.log ++ x ∷ []) ≡ length w.log + 1
one_more w x = let e = length_push w.log x in omega arith

made_is_recorded : (w : State) (id : StreamId) (o : Option Instr) → is_none (call_under w.numbers o) ≡ true → is_none (entry_by w o) ≡ true → is_none (unposted w id.plan o) ≡ true →
    IsRecorded w (made w id passage.Through o).1
made_is_recorded w id None call entry wait = record { more = one_more w _; room = refl }
made_is_recorded w id (Some (instr.Publish s)) call entry wait = absurd (cc)
made_is_recorded w id (Some (instr.Unlist s)) call entry wait = absurd (cc)
made_is_recorded w id (Some (instr.Signal q)) call entry wait = record { more = one_more w _; room = refl }
made_is_recorded w id (Some (instr.Wait q)) call entry wait = go (w.marks id.plan q).posted refl wait
  where
    go : (b : Bool) → (w.marks id.plan q).posted ≡ b → is_none (if b then None else Some q) ≡ true → IsRecorded w (made w id passage.Through (Some (instr.Wait q))).1
    go true e n = rw e (record { more = one_more w _; room = refl })
    go false e n = absurd (cc)
made_is_recorded w id (Some i) call entry wait = absurd (cc)

-- a free stream's step is recorded
pub free_is_recorded : (w : State) (id : StreamId) → w.halted ≡ false → is_free w id ≡ true → IsRecorded w (happens w (Step id)).1
free_is_recorded w id running free =
    let p = and_parts ((is_running w id && is_none (next_call_of w id)) && is_none (next_entry_of w id)) (is_none (blocked_on w id)) free in
    let q = and_parts (is_running w id && is_none (next_call_of w id)) (is_none (next_entry_of w id)) p.0 in
    let r = and_parts (is_running w id) (is_none (next_call_of w id)) q.0 in
    let b = and_parts (is_begun w id) (not (progress_of w id).done) r.0 in
    let before : instruction_before w id ≡ next_instruction w id = ap (λ t. if t then next_instruction w id else None) r.0 in
    let step = made_is_recorded w id (next_instruction w id)
    (ap (λ o. is_none (call_under w.numbers o)) (sym before) ∙ r.1) (ap (λ o. is_none (entry_by w o)) (sym before) ∙ q.1)
    (ap (λ o. is_none (unposted w id.plan o)) (sym before) ∙ p.1) in
    let next : Outcome × State = made w id passage.Through (next_instruction w id) in
    let ready : happens w (Step id) ≡ next =
    ap (λ t. if t then unchanged w played.Halted else if is_begun w id then (if (progress_of w id).done then unchanged w played.Done else next) else unchanged w played.Unknown) running
    ∙ ap (λ t. if t then (if (progress_of w id).done then unchanged w played.Done else next) else unchanged w played.Unknown) b.0
    ∙ ap (λ t. if t then unchanged w played.Done else next) (not-true (progress_of w id).done b.1) in
    subst (λ (o : Outcome × State). IsRecorded w o.1) (sym ready) step

-- the answer of an outcome
abbrev pub told : Outcome → Played
told (Answered a) = a
told Refused = played.Halted

-- a machine whose step is not answered that it is halted is not halted
pub not_halted : (w new : State) (id : StreamId) (answer : Played) → happens w (Step id) ≡ (Answered answer, new) → answer ≢ played.Halted → w.halted ≡ false
not_halted w new id answer e n = go w.halted refl
  where
    else_is : Outcome × State
    else_is = if is_begun w id then (if (progress_of w id).done then unchanged w played.Done else made w id passage.Through (next_instruction w id)) else unchanged w played.Unknown

    go : (b : Bool) → w.halted ≡ b → w.halted ≡ false
    go true h = absurd (n (sym (ap (λ o. told o.0) (sym (ap (λ t. if t then unchanged w played.Halted else else_is) h) ∙ e))))
    go false h = h

-- what advances the state after a free stream's step advances the one before it
pub advanced_before : (w new : State) (id : StreamId) → next_free w ≡ Some id → IsAdvanced (happens w (Step id)).1 new → IsAdvanced w new
advanced_before w new id free x = record { streams = id ∷ x.streams; free = (free, x.free); state = x.state }

none_after : (streams : List StreamId) (w : State) → AreNextFree streams w → next_free (run (map Step streams) w) ≡ None
none_after [] w free = free
none_after (id ∷ ids) w free = none_after ids (happens w (Step id)).1 free.1

-- once every local step is made, no stream is free
pub none_is_left : (w new : State) → IsAdvanced w new → next_free new ≡ None
none_is_left w new x = ap next_free x.state ∙ none_after x.streams w x.free

-- where none is left there is nothing to make
pub none_to_make : (w : State) → next_free w ≡ None → IsAdvanced w w
none_to_make w none = record { streams = []; free = none; state = refl }

-- a free stream's step leaves one place less in the log
pub one_less : (setup : Setup) (w new : State) (id : StreamId) (answer : Played) → happens w (Step id) ≡ (Answered answer, new) → answer ≢ played.Halted → is_free w id ≡ true → IsReached setup new →
    new.room - length new.log < w.room - length w.log
one_less setup w new id answer e runs free reached =
    let step : (happens w (Step id)).1 ≡ new = ap (λ o. o.1) e in
    let more = free_is_recorded w id (not_halted w new id answer e runs) free in
    let log : length new.log ≡ length w.log + 1 = ap (λ s. length s.log) (sym step) ∙ more.more in
    let room : new.room ≡ w.room = ap (λ s. s.room) (sym step) ∙ more.room in
    let bound : length new.log ≤ new.room = (numbers_stay_small setup new reached).log in
    omega arith
