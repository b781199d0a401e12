-- The controller's own events, and the answers that it takes, keep what holds wherever events lead.
use Rattle.std.proofs.Common.{◌≡◌, ◌≢◌, ◌+◌, sym, ap, ◌∙◌, inl, inr, subst, arith, true, Some, List}
use Rattle.std.specs.Prelude.{slice_get}
use Rattle.sm_placement.specs.Setup.{Setup}
use Rattle.sm_placement.specs.Place.{Place}
use Rattle.sm_reservation.specs.declared.stream_id.StreamId.{StreamId}
use Rattle.sm_plan_code.specs.declared.instruction.Instr.{Instr}
use Rattle.sm_plan_code.specs.declared.call.ServerCall.{ServerCall}
use Rattle.sm_plan_code.specs.Acts.{next_call}
use Rattle.sm_plan_code.specs.Plan.{StreamModel}
use Rattle.sm_protocol.specs.State.{Progress, State, is_begun, next_instruction, progress_of, stream_parts}
use Rattle.sm_protocol.specs.Happens.{Happening, Step, Lose, happens}
use Rattle.sm_protocol.specs.Laws.{FitsConfig, LosesNothing}
use Rattle.sm_protocol.proofs.Invariant.{IsKept}
use Rattle.sm_protocol.proofs.Cases.{IsBefore}
use Rattle.sm_protocol.proofs.Numbers.{one_stream}
use Rattle.sm_protocol.proofs.Reached.{reached_next}
use Rattle.sm_protocol.proofs.Whole.{reached_keeps}
use Rattle.laws_network.proofs.Traced.{Net, call_now, is_own, since_after, without}
use Rattle.laws_network.proofs.Overlay.{CanSwap, IsApartFrom, IsIn, numbers_same, numbers_slide, over_numbers, overlay, overlay_same, overlay_slides}
use Rattle.laws_network.proofs.Apart.{IsAtCall, calls_apart, next_stays, numbers_swap}
use Rattle.laws_network.proofs.Calls.{IsCallMade, made_by_step, step_moves}
use Rattle.laws_network.proofs.Ahead.{at_call_same, call_is, next_same}
use Rattle.laws_network.proofs.Calm.{IsFrame, calm_next, own_frame, ready}
use Rattle.laws_network.proofs.Lists.{from_without, numbers_without, once_without, overlay_without, to_without}
use Rattle.laws_network.proofs.Sound.{GoesOn, IsSound, goes_sound}

-- ---- own events

-- a stream stands before the same call at another state
at_call_like : (w new : State) (id : StreamId) (i : Instr) (x : ServerCall) → is_begun new id ≡ true → stream_parts new id ≡ stream_parts w id → (progress_of new id).done ≡ (progress_of w id).done →
    (progress_of new id).at ≡ (progress_of w id).at → new.numbers ≡ w.numbers → IsAtCall w id i x → IsAtCall new id i x
at_call_like w new id i x begun parts done at numbers t = record {
  before = record {
    begun = begun;
    running = done ∙ t.before.running;
    next_is = ap (λ (p : StreamModel). slice_get p.code (progress_of new id).at) parts ∙ ap (λ k. slice_get (stream_parts w id).code k) at ∙ t.before.next_is;
  };
  call = t.call;
  next = ap (λ f. next_call f i) numbers ∙ t.next;
}

module _ (w new : State) (f : IsFrame w new) where
  -- a stream before a call stands before it afterwards, at the same position
  pub frame_forward : (id : StreamId) (i : Instr) (x : ServerCall) → IsAtCall w id i x → IsAtCall new id i x × ((progress_of new id).at ≡ (progress_of w id).at)
  frame_forward id i x t =
      let s = f.streams id t.before.begun in
      elim s.2 [
        | inl k ↦ (at_call_like w new id i x s.0 s.1 k.0 k.1 f.numbers t, k.1)
        | inr k ↦ absurd (let c = call_is t in let n = k.0 in cc)
      ]

  frame_backward : (id : StreamId) (i : Instr) (x : ServerCall) → is_begun w id ≡ true → (progress_of new id).at ≡ (progress_of w id).at → IsAtCall new id i x → IsAtCall w id i x
  frame_backward id i x b e t =
      let s = f.streams id b in
      elim s.2 [
        | inl k ↦ at_call_like new w id i x b (sym s.1) (sym k.0) (sym k.1) (sym f.numbers) t
        | inr k ↦ elim k.1 [
          | inl d ↦ absurd (let r = t.before.running in cc)
          | inr d ↦ absurd (d e)
        ]
      ]

-- the controller's own events lose nothing
pub own_loses : (w : State) (e : Happening) → is_own w e ≡ true → LosesNothing e
own_loses w (Lose id after) o = cc
own_loses w _ o = tt

module _ (setup : Setup) (n : Net) (sound : IsSound setup n) (e : Happening) (fits : FitsConfig n.w.sizes e) (own : is_own n.w e ≡ true) where
  abbrev after : State
  after = (happens n.w e).1

  pub frame : IsFrame n.w after
  frame = own_frame n.w e own

  own_goes : GoesOn n after n.had (λ id. ⊥)
  own_goes = record {
    log = frame.log;
    decided = λ id. inr (λ m. m);
    longer = λ id m. absurd m;
    moved = λ id m. absurd m;
    elsewhere = λ id m. absurd m;
    had_before = λ id h. (h, λ m. m);
    had_still = λ id h m. h;
    once = sound.once;
    cells = sound.cells
        ∙ sym (overlay_same n.w after n.had n.w.place.cells (λ id h.
        let t = sound.at_calls id h in
        call_is (frame_forward n.w after frame id t.0 t.1 t.2).0 ∙ sym (call_is t.2)))
        ∙ ap (overlay after n.had) (sym frame.cells);
    numbers = numbers_same n.w after n.had after.numbers (λ id h.
        let t = sound.at_calls id h in
        (frame_forward n.w after frame id t.0 t.1 t.2).0.before.next_is ∙ sym t.2.before.next_is)
        ∙ ap (over_numbers n.w n.had) frame.numbers;
    forward = λ id i x m t. frame_forward n.w after frame id i x t;
    backward = frame_backward n.w after frame;
  }

  -- the invariant holds after an event of the controller's own
  pub own_sound : IsSound setup (record n { w = after; since = since_after n after; had = n.had })
  own_sound =
      let v = (reached_keeps setup n.w sound.reached).0 in
      goes_sound setup n sound after n.had (λ id. ⊥) own_goes (reached_next setup n.w e sound.reached fits) (calm_next n.w v sound.calm e fits (own_loses n.w e own))

-- ---- answers

module _ (setup : Setup) (n : Net) (sound : IsSound setup n) (id : StreamId) (i : Instr) (x : ServerCall) (h : IsIn n.had id) (t : IsAtCall n.w id i x) where
  abbrev stepped : State
  stepped = (happens n.w (Step id)).1

  v : IsKept n.w
  v = (reached_keeps setup n.w sound.reached).0

  m : IsCallMade n.w stepped id i x
  m = made_by_step n.w v id i x sound.calm.halted (ready v sound.calm t)

  -- the answered stream stands one instruction further
  pub further : (progress_of stepped id).at ≡ (progress_of n.w id).at + 1
  further = (step_moves n.w v id i x sound.calm.halted (ready v sound.calm t)).1

  not_here : (j : StreamId) → j ≡ id → (progress_of stepped j).at ≢ (progress_of n.w j).at
  not_here j e = subst (λ k. (progress_of stepped k).at ≢ (progress_of n.w k).at) (sym e) (λ q. absurd (let f = further in omega arith))

  stays : (j : StreamId) (k : Instr) → j ≢ id → IsBefore n.w j (Some k) → next_call stepped.numbers k ≡ next_call n.w.numbers k
  stays j k d b = ap (λ f. next_call f k) m.numbers ∙ next_stays n.w v id j (λ q. d (sym q)) (sound.calm.unmade id) (sound.calm.unmade j) i k t.before b

  -- each other stream before a call stands before it afterwards
  pub forward : (j : StreamId) (k : Instr) (y : ServerCall) → j ≢ id → IsAtCall n.w j k y → IsAtCall stepped j k y × ((progress_of stepped j).at ≡ (progress_of n.w j).at)
  forward j k y d u = (at_call_same n.w stepped j m.plans (m.others j d) k y (stays j k d u.before) u, ap (λ (z : Progress). z.at) (m.others j d))

  backward : (j : StreamId) (k : Instr) (y : ServerCall) → is_begun n.w j ≡ true → (progress_of stepped j).at ≡ (progress_of n.w j).at → IsAtCall stepped j k y → IsAtCall n.w j k y
  backward j k y b e u = elim (one_stream j id) [
    | inl q ↦ absurd (not_here j q e)
    | inr d ↦
        let plans = sym m.plans in
        let progress = sym (m.others j d) in
        let before : IsBefore n.w j (Some k) = record {
          begun = b;
          running = ap (λ (z : Progress). z.done) progress ∙ u.before.running;
          next_is = next_same stepped n.w j plans progress ∙ u.before.next_is;
        } in
        at_call_same stepped n.w j plans progress k y (sym (stays j k d before)) u
  ]

  other_calls : (j : StreamId) → IsIn n.had j → j ≢ id → IsApartFrom x (call_now n.w j)
  other_calls j k d =
      let u = sound.at_calls j k in
      subst (IsApartFrom x) (sym (call_is u.2)) (calls_apart n.w v id j i u.0 x u.1 (λ q. d (sym q)) t u.2 (sound.calm.unmade id) (sound.calm.unmade j))

  other_swaps : (j : StreamId) → IsIn n.had j → j ≢ id → CanSwap i (next_instruction n.w j)
  other_swaps j k d =
      let u = sound.at_calls j k in
      subst (CanSwap i) (sym u.2.before.next_is) (numbers_swap n.w v id j (λ q. d (sym q)) (sound.calm.unmade id) (sound.calm.unmade j) i u.0 t.before u.2.before)

  abbrev left : List StreamId
  left = without id n.had

  answer_goes : GoesOn n stepped left (λ j. j ≡ id)
  answer_goes = record {
    log = let l = m.log in omega arith;
    decided = λ j. one_stream j id;
    longer = λ j e. let l = m.log in omega arith;
    moved = λ j e. subst (IsIn n.had) (sym e) h;
    elsewhere = not_here;
    had_before = from_without id n.had;
    had_still = to_without id n.had;
    once = once_without id n.had sound.once;
    cells = sound.cells
        ∙ overlay_without n.w n.had id x n.w.place.cells h sound.once (call_is t) other_calls
        ∙ sym (overlay_slides n.w left x n.w.place.cells (λ j k. let b = from_without id n.had j k in other_calls j b.0 b.1))
        ∙ ap (λ (p : Place). overlay n.w left p.cells) (sym m.place)
        ∙ sym (overlay_same n.w stepped left stepped.place.cells (λ j k.
        let b = from_without id n.had j k in
        let u = sound.at_calls j b.0 in
        call_is (forward j u.0 u.1 b.1 u.2).0 ∙ sym (call_is u.2)));
    numbers = numbers_same n.w stepped left stepped.numbers (λ j k.
        let b = from_without id n.had j k in
        let u = sound.at_calls j b.0 in
        (forward j u.0 u.1 b.1 u.2).0.before.next_is ∙ sym u.2.before.next_is)
        ∙ ap (over_numbers n.w left) m.numbers
        ∙ numbers_slide n.w left i n.w.numbers (λ j k. let b = from_without id n.had j k in other_swaps j b.0 b.1)
        ∙ sym (numbers_without n.w n.had id i n.w.numbers h sound.once t.before.next_is other_swaps);
    forward = forward;
    backward = backward;
  }

  -- the invariant holds after an answer that is taken
  pub answer_sound : IsSound setup (record n { w = stepped; since = since_after n stepped; had = left })
  answer_sound = goes_sound setup n sound stepped left (λ j. j ≡ id) answer_goes (reached_next setup n.w (Step id) sound.reached tt) (calm_next n.w v sound.calm (Step id) tt tt)
