-- The state after each kind of step keeps what holds of every state.
use Rattle.std.proofs.Common.{◌≡◌, ℕ, Bool, true, refl, ap, ◌∙◌, subst, Option, Some, None, Result, Ok}
use Rattle.std.specs.Prelude.{if◌then◌else◌}
use Rattle.sm_server.specs.declared.call.Refusal.{Refusal}
use Rattle.sm_placement.specs.Place.{CallEffect}
use Rattle.sm_reservation.specs.Pool.{leads_of}
use Rattle.sm_reservation.specs.declared.stream_id.StreamId.{StreamId}
use Rattle.sm_plan_code.specs.declared.call.ServerCall.{ServerCall}
use Rattle.sm_plan_code.specs.declared.instruction.Instr.{Instr}
use Rattle.sm_plan_code.specs.declared.instruction.Instr.TheVariants.{PrepareAdd, PrepareDrop, Add, Drop, Change, Publish, Unlist, Signal, Wait}
use Rattle.sm_plan_code.specs.Instr.{is_call}
use Rattle.sm_plan_code.specs.After.{to_list}
use Rattle.sm_protocol.specs.declared.event.Event.TheVariants as event
use Rattle.sm_protocol.specs.declared.event.Passage.{Passage}
use Rattle.sm_protocol.specs.declared.event.Passage.TheVariants.{Through, LostBefore, LostAfter}
use Rattle.sm_protocol.specs.declared.event.Played.TheVariants as played
use Rattle.sm_protocol.specs.State.{State, progress_of, next_instruction}
use Rattle.sm_protocol.specs.Steps.{Outcome, Answered, unchanged, call_to_make, behind_call, ahead_of_call, served_try, call_lost, tried, call_tried, entry_added, posted, ended, made, step}
use Rattle.sm_protocol.specs.Safe.{unhalted}
use Rattle.sm_protocol.proofs.Invariant.{IsKept}
use Rattle.sm_protocol.proofs.Steps.{step_keeps}
use Rattle.sm_protocol.proofs.Whole.{unhalted_keeps}
use Rattle.sm_protocol.proofs.Cases.{IsBefore, IsTry, answer_to, parcel_taken}

-- the halt flag is no part of it
pub halted_keeps : (w : State) → IsKept (unhalted w) → IsKept w
halted_keeps w v = record { leads = v.leads; stage = v.stage; plans = v.plans; unbegun = v.unbegun; later_marks = v.later_marks; fits = v.fits; numbered = v.numbered }

-- a call is tried
pub made_call : (w : State) (id : StreamId) (passage : Passage) (i : Instr) → is_call i ≡ true → made w id passage (Some i) ≡ call_tried w id passage i (call_to_make w (progress_of w id) i)
made_call w id passage (PrepareAdd s v u) e = refl
made_call w id passage (PrepareDrop s u v) e = refl
made_call w id passage (Add s v role) e = refl
made_call w id passage (Drop s v) e = refl
made_call w id passage (Change s v to) e = refl
made_call w id passage (Publish s) e = cc
made_call w id passage (Unlist s) e = cc
made_call w id passage (Signal k) e = cc
made_call w id passage (Wait k) e = cc

module _ (w : State) (v : IsKept w) (id : StreamId) where
  abbrev free : State
  free = unhalted w

  -- what a step makes, the halt flag aside
  is_made : (passage : Passage) (o : Option Instr) → IsBefore w id o → step free id passage ≡ made free id passage o
  is_made passage o b = ap known b.begun ∙ ap running b.running ∙ ap (made free id passage) b.next_is
    where
      running : Bool → Outcome × State
      running t = if t then unchanged free played.Done else made free id passage (next_instruction w id)

      known : Bool → Outcome × State
      known t = if t then running (progress_of w id).done else unchanged free played.Unknown

  kept_made : (passage : Passage) (o : Option Instr) → IsBefore w id o → IsKept (made free id passage o).1
  kept_made passage o b = subst (λ z. IsKept z.1) (is_made passage o b) (step_keeps free (unhalted_keeps w v) id passage).1

  -- a publish keeps the protocol's invariant
  pub kept_published : (s : ℕ) → IsBefore w id (Some (Publish s)) → IsKept (entry_added w id s (to_list (leads_of w.sizes w.place s))).1
  kept_published s b = halted_keeps (entry_added w id s (to_list (leads_of w.sizes w.place s))).1 (kept_made Through _ b)

  -- so does an unlist
  pub kept_unlisted : (s : ℕ) → IsBefore w id (Some (Unlist s)) → IsKept (entry_added w id s None).1
  kept_unlisted s b = halted_keeps (entry_added w id s None).1 (kept_made Through _ b)

  -- so does the post of a signal
  pub kept_posted : (q : ℕ) → IsBefore w id (Some (Signal q)) → IsKept (posted w id q).1
  kept_posted q b = halted_keeps (posted w id q).1 (kept_made Through _ b)

  -- so does a wait for a posted signal
  pub kept_taken : (q : ℕ) → IsBefore w id (Some (Wait q)) → (w.marks id.plan q).posted ≡ true → IsKept (parcel_taken w id q)
  kept_taken q b e = halted_keeps (parcel_taken w id q) (subst (λ z. IsKept z.1) (ap taken e) (kept_made Through _ b))
    where
      taken : Bool → Outcome × State
      taken t = if t then (Answered played.Moved, parcel_taken free id q) else unchanged free (played.Blocked q)

  -- so does the end of a stream
  pub kept_ended : IsBefore w id None → IsKept (ended w id).1
  kept_ended b = halted_keeps (ended w id).1 (kept_made Through _ b)

  module _ (i : Instr) (x : ServerCall) (t : IsTry w id i x) where
    tries : (passage : Passage) (answer : Result CallEffect Refusal) → answer_to w id x ≡ answer → made free id passage (Some i) ≡ tried free id i passage answer
    tries passage answer e =
        made_call free id passage i t.call
        ∙ ap (call_tried free id passage i) t.call_is
        ∙ ap spent t.unspent
        ∙ ap (tried free id i passage) e
      where
        spent : Bool → Outcome × State
        spent z = if z then unchanged free played.Spent else tried free id i passage (answer_to w id x)

    kept_tried : (passage : Passage) (answer : Result CallEffect Refusal) → answer_to w id x ≡ answer → IsKept (tried free id i passage answer).1
    kept_tried passage answer e = subst (λ z. IsKept z.1) (tries passage answer e) (kept_made passage _ t.before)

    -- a try that is served and answered keeps the protocol's invariant
    pub kept_through : (effect : CallEffect) → answer_to w id x ≡ Ok effect → IsKept (served_try w id i effect (behind_call (progress_of w id) effect.fresh) (event.Step id) played.Moved)
    kept_through effect e = halted_keeps (served_try w id i effect (behind_call (progress_of w id) effect.fresh) (event.Step id) played.Moved) (kept_tried Through (Ok effect) e)

    -- so does one that is served, and whose answer is lost
    pub kept_unanswered : (effect : CallEffect) → answer_to w id x ≡ Ok effect → IsKept (served_try w id i effect (ahead_of_call w (progress_of w id) effect.fresh) (event.Lose id true) played.Lost)
    kept_unanswered effect e = halted_keeps (served_try w id i effect (ahead_of_call w (progress_of w id) effect.fresh) (event.Lose id true) played.Lost) (kept_tried LostAfter (Ok effect) e)

    -- so does one that is lost before it comes to its server
    pub kept_lost : IsKept (call_lost w id)
    kept_lost = halted_keeps (call_lost w id) (kept_tried LostBefore (answer_to w id x) refl)
