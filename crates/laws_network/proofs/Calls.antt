-- A stream's call, made by the controller as a step, or lost on its way back: what it changes.
use Rattle.std.proofs.Common.{Option, None, Bool, ◌⊎◌, inl, inr, ◌≡◌, ◌≢◌, ◌+◌, refl, sym, ap, ◌∙◌, subst, true, false, Some, Ok, length}
use Rattle.std.specs.Prelude.{if◌then◌else◌, ◌==◌}
use Rattle.sm_placement.specs.Place.{Place, CallEffect, called, set_last}
use Rattle.sm_placement.specs.Sums.{put2}
use Rattle.sm_reservation.specs.declared.stream_id.StreamId.{StreamId}
use Rattle.sm_plan_code.specs.declared.instruction.Instr.{Instr}
use Rattle.sm_plan_code.specs.declared.instruction.Instr.TheVariants.{Publish, Unlist, Signal, Wait}
use Rattle.sm_plan_code.specs.declared.call.ServerCall.{ServerCall}
use Rattle.sm_plan_code.specs.Instr.{is_call}
use Rattle.sm_plan_code.specs.Acts.{numbers_after}
use Rattle.sm_plan_code.specs.Effects.{NumberedEffect}
use Rattle.sm_verifier.specs.Stream.{hold_before, stream_at}
use Rattle.sm_protocol.specs.declared.event.Event.{Event}
use Rattle.sm_protocol.specs.declared.event.Event.TheVariants as event
use Rattle.sm_protocol.specs.declared.event.Passage.{Passage}
use Rattle.sm_protocol.specs.declared.event.Passage.TheVariants.{LostAfter, Through}
use Rattle.sm_protocol.specs.declared.event.Played.{Played}
use Rattle.sm_protocol.specs.declared.event.Played.TheVariants as played
use Rattle.sm_protocol.specs.State.{Progress, State, allowance, is_begun, next_instruction, plan_at, progress_of, set_progress}
use Rattle.sm_protocol.specs.Steps.{Answered, Outcome, ahead_of_call, behind_call, call_number, call_to_make, call_tried, made, served_try, step, tried, unchanged}
use Rattle.sm_protocol.specs.Happens.{Lose, Step, happens}
use Rattle.sm_protocol.proofs.Invariant.{IsKept}
use Rattle.sm_protocol.proofs.Cases.{IsTry, answer_to, parcel_taken}
use Rattle.sm_protocol.proofs.Numbers.{goes_on}
use Rattle.sm_protocol.proofs.LogRoom.{length_logged}
use Rattle.sm_protocol.proofs.Tries.{first_effect}
use Rattle.sm_protocol.specs.Safe.{IsStep}
use Rattle.laws_network.proofs.Traced.{instruction_call}
use Rattle.laws_network.proofs.Overlay.{called_is, call_made}
use Rattle.laws_network.proofs.Apart.{IsAtCall}

-- the stream can try its call: it has tries left, and no call of its that has had its effect is unanswered
pub record IsReady (w : State) (id : StreamId) (i : Instr) (x : ServerCall) : Type 0 where
  pub at : IsAtCall w id i x
  pub unmade : (progress_of w id).ahead ≡ false
  pub unspent : ((progress_of w id).tries == allowance w id) ≡ false

pub is_try : {w : State} {id : StreamId} {i : Instr} {x : ServerCall} → IsReady w id i x → IsTry w id i x
is_try r = record { before = r.at.before; call = r.at.call; unspent = r.unspent; call_is = rw (r.unmade) (r.at.next) }

-- ---- what a step does

made_call : (w : State) (id : StreamId) (p : Passage) (i : Instr) → is_call i ≡ true → made w id p (Some i) ≡ call_tried w id p i (call_to_make w (progress_of w id) i)
made_call w id p (Publish s) e = cc
made_call w id p (Unlist s) e = cc
made_call w id p (Signal k) e = cc
made_call w id p (Wait k) e = cc
made_call w id p _ e = refl

-- a step of a running stream makes its next instruction
pub step_made : (w : State) (id : StreamId) (p : Passage) → w.halted ≡ false → is_begun w id ≡ true → (progress_of w id).done ≡ false → step w id p ≡ made w id p (next_instruction w id)
step_made w id p h b d = rw (h, b, d) refl

call_unspent : (w : State) (id : StreamId) (p : Passage) (i : Instr) (x : ServerCall) → ((progress_of w id).tries == allowance w id) ≡ false → call_tried w id p i (Some x) ≡ tried w id i p (answer_to w id x)
call_unspent w id p i x e = rw e refl

-- a try is made
step_tries : (w : State) (id : StreamId) (i : Instr) (x : ServerCall) (p : Passage) → w.halted ≡ false → IsTry w id i x → step w id p ≡ tried w id i p (answer_to w id x)
step_tries w id i x p h t =
    step_made w id p h t.before.begun t.before.running
    ∙ ap (made w id p) t.before.next_is
    ∙ made_call w id p i t.call
    ∙ ap (call_tried w id p i) t.call_is
    ∙ call_unspent w id p i x t.unspent

-- ---- what the call changes

-- The call of a stream is made, and nothing else changes but its progress, handover numbers, last numbers and the log.
pub record IsCallMade (w new : State) (id : StreamId) (i : Instr) (x : ServerCall) : Type 0 where
  pub sizes : new.sizes ≡ w.sizes
  pub place : new.place ≡ (let z : Place = record w.place { cells = call_made x w.place.cells; last = new.place.last } in z)
  pub numbers : new.numbers ≡ numbers_after w.numbers i
  pub others : (other : StreamId) → other ≢ id → progress_of new other ≡ progress_of w other
  pub plans : new.plans ≡ w.plans
  pub log : length new.log ≡ length w.log + 1
  pub halted : new.halted ≡ w.halted

module _ (w : State) (v : IsKept w) (id : StreamId) (i : Instr) (x : ServerCall) (h : w.halted ≡ false) (r : IsReady w id i x) where
  abbrev now : Progress
  now = progress_of w id

  -- the call has its effect as the lemmas of the protocol say
  pub has_effect : NumberedEffect w.sizes w.place v.leads w.numbers (hold_before (stream_at w.sizes (plan_at w id.plan) id.stream) now.at) (hold_before (stream_at w.sizes (plan_at w id.plan) id.stream) (now.at + 1)) i x (call_number w now)
  has_effect = first_effect w v id i x (is_try r) r.unmade

  -- the call is served
  pub is_called : called w.sizes w.place x.shard x.server x.call ≡ Ok has_effect.effect.next_place
  is_called = has_effect.called

  abbrev answer : CallEffect
  answer = record { place = set_last has_effect.effect.next_place x.shard x.server (call_number w now); fresh = true }

  abbrev after_try : Progress → Event → Played → State
  after_try y e a = served_try w id i answer y e a

  served : (y : Progress) (e : Event) (a : Played) → IsCallMade w (after_try y e a) id i x
  served y e a = record {
    sizes = refl;
    place = ap (λ (q : Place). let z : Place = record q { last = put2 has_effect.effect.next_place.last x.shard x.server (call_number w now) } in z) (called_is w.sizes w.place x has_effect.effect.next_place is_called);
    numbers = refl;
    others = (goes_on w id y).others;
    plans = refl;
    log = length_logged w e a;
    halted = refl;
  }

  lost_is : happens w (Lose id true) ≡ (Answered played.Lost, after_try (ahead_of_call w now true) (event.Lose id true) played.Lost)
  lost_is = step_tries w id i x LostAfter h (is_try r) ∙ ap (tried w id i LostAfter) has_effect.answered

  step_is : happens w (Step id) ≡ (Answered played.Moved, after_try (behind_call now true) (event.Step id) played.Moved)
  step_is = step_tries w id i x Through h (is_try r) ∙ ap (tried w id i Through) has_effect.answered

  -- the call is made, and its answer is lost
  pub made_by_lose : IsCallMade w (happens w (Lose id true)).1 id i x
  made_by_lose = subst (λ (o : Outcome × State). IsCallMade w o.1 id i x) (sym lost_is) (served (ahead_of_call w now true) (event.Lose id true) played.Lost)

  -- the call is made and answered
  pub made_by_step : IsCallMade w (happens w (Step id)).1 id i x
  made_by_step = subst (λ (o : Outcome × State). IsCallMade w o.1 id i x) (sym step_is) (served (behind_call now true) (event.Step id) played.Moved)

  -- a step over the call is answered, and the stream stands one instruction further
  pub step_moves : ((happens w (Step id)).0 ≡ Answered played.Moved) × ((progress_of (happens w (Step id)).1 id).at ≡ now.at + 1)
  step_moves = (ap (λ (o : Outcome × State). o.0) step_is, ap (λ (o : Outcome × State). (progress_of o.1 id).at) step_is ∙ ap (λ (y : Progress). y.at) (goes_on w id (behind_call now true)).here)

-- ---- steps that are no calls

module _ (w : State) (id : StreamId) where
  abbrev IsPastBy : State → Type 0
  IsPastBy new = ((progress_of new id).at ≡ (progress_of w id).at + 1) ⊎ ((progress_of new id).done ≡ true)

  past_by : (y : Progress) → ((y.at ≡ (progress_of w id).at + 1) ⊎ (y.done ≡ true)) → ((set_progress w id y id.plan id.stream).at ≡ (progress_of w id).at + 1) ⊎ ((set_progress w id y id.plan id.stream).done ≡ true)
  past_by y p = subst (λ (z : Progress). (z.at ≡ (progress_of w id).at + 1) ⊎ (z.done ≡ true)) (sym (goes_on w id y).here) p

  -- a step that is made, and is no call, takes the stream on
  pub made_moves : (o : Option Instr) → instruction_call w.numbers o ≡ None → IsStep (made w id Through o).0 → IsPastBy (made w id Through o).1
  made_moves None c s = past_by (record (progress_of w id) { done = true }) (inr refl)
  made_moves (Some (Publish r)) c s = past_by (record (progress_of w id) { at = (progress_of w id).at + 1 }) (inl refl)
  made_moves (Some (Unlist r)) c s = past_by (record (progress_of w id) { at = (progress_of w id).at + 1 }) (inl refl)
  made_moves (Some (Signal q)) c s = past_by (record (progress_of w id) { at = (progress_of w id).at + 1 }) (inl refl)
  made_moves (Some (Wait q)) c s = go (w.marks id.plan q).posted s
    where
      taken : Outcome × State
      taken = (Answered played.Moved, parcel_taken w id q)

      go : (b : Bool) → IsStep (if b then (Answered played.Moved, parcel_taken w id q) else unchanged w (played.Blocked q)).0 → IsPastBy (if b then (Answered played.Moved, parcel_taken w id q) else unchanged w (played.Blocked q)).1
      go true s = past_by (record (progress_of w id) { at = (progress_of w id).at + 1 }) (inl refl)
      go false s = absurd s
  made_moves (Some _) c s = absurd (cc)
