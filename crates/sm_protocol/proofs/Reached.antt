-- A fact that holds at every opening and is kept by every event holds of every state that events lead to.
use Rattle.sm_protocol.proofs.Below.{◌≡◌, ◌⊎◌, ℕ, Bool, true, false, refl, sym, ap, ◌∙◌, inl, inr, subst, Option, Some, None, List, [], ◌∷◌, ◌++◌, length, if◌then◌else◌, cases_Bool, Setup, Sizes, sizes_of, Place, forget_numbers, set_down, StreamId, PlanModel}
use Rattle.sm_protocol.proofs.Words.{Event, Passage, Through, LostBefore, LostAfter, Ticket, State, opened, is_begun, progress_of, next_instruction, logged, recorded, Answered, unchanged, made, step, Happening, Step, Lose, refilled, reply_of, requested, approved, begun, started, has_all_plans, happens, run, unhalted, IsOpening, IsReached, FitsConfig, AllFit}
use Rattle.sm_protocol.specs.declared.event.BeginFault.TheVariants as fault
use Rattle.sm_protocol.specs.declared.event.Event.TheVariants as event
use Rattle.sm_protocol.specs.declared.event.Played.TheVariants as played
use Rattle.sm_protocol.proofs.Cases.{OfSteps, of_happens, of_any}

-- what no event changes
pub record IsOfOneMachine (w new : State) : Type 0 where
  pub sizes : new.sizes ≡ w.sizes
  pub opening : new.opening ≡ w.opening
  pub room : new.room ≡ w.room
  pub halted : new.halted ≡ w.halted

all_refl : (w : State) → IsOfOneMachine w w
all_refl w = record { sizes = refl; opening = refl; room = refl; halted = refl }

same_by_steps : (w : State) (id : StreamId) (passage : Passage) → OfSteps w id passage (λ o. IsOfOneMachine w o.1)
same_by_steps w id passage = record {
  idle = λ answer. all_refl w;
  refused = λ i x why t e. all_refl w;
  at_end = λ b. record { sizes = refl; opening = refl; room = refl; halted = refl };
  publishes = λ i s server b c. record { sizes = refl; opening = refl; room = refl; halted = refl };
  posts = λ q b. record { sizes = refl; opening = refl; room = refl; halted = refl };
  awaits = λ q b e. record { sizes = refl; opening = refl; room = refl; halted = refl };
  lost = λ i x t e. record { sizes = refl; opening = refl; room = refl; halted = refl };
  through = λ i x effect t e f. record { sizes = refl; opening = refl; room = refl; halted = refl };
  unanswered = λ i x effect t e f. record { sizes = refl; opening = refl; room = refl; halted = refl };
}

-- no event changes the configuration, the opening, the log's room or the halt flag
pub same_machine : (w : State) (e : Happening) → IsOfOneMachine w (happens w e).1
same_machine w e = of_happens w (λ e o. IsOfOneMachine w o.1) (record {
  idle = λ e answer n. all_refl w;
  steps = λ id. same_by_steps w id _;
  loses = λ id after. same_by_steps w id _;
  refills = λ id more f. record { sizes = refl; opening = refl; room = refl; halted = refl };
  arrives = λ s v f. record { sizes = refl; opening = refl; room = refl; halted = refl };
  passes_on = λ t o f. record { sizes = refl; opening = refl; room = refl; halted = refl };
  approves = λ v f. record { sizes = refl; opening = refl; room = refl; halted = refl };
  restarts = λ v f. record { sizes = refl; opening = refl; room = refl; halted = refl };
  starts = λ plan h f g. record { sizes = refl; opening = refl; room = refl; halted = refl };
}) e

pub run_push : (es : List Happening) (e : Happening) (w : State) → run (es ++ e ∷ []) w ≡ (happens (run es w) e).1
run_push [] e w = refl
run_push (x ∷ es) e w = run_push es e (happens w x).1

pub fit_push : (c : Sizes) (es : List Happening) (e : Happening) → AllFit c es → FitsConfig c e → AllFit c (es ++ e ∷ [])
fit_push c [] e all f = (f, tt)
fit_push c (x ∷ es) e all f = (all.0, fit_push c es e all.1 f)

-- and no list of events does
pub run_same : (es : List Happening) (w : State) → IsOfOneMachine w (run es w)
run_same [] w = all_refl w
run_same (e ∷ es) w =
    let a = same_machine w e in
    let b = run_same es (happens w e).1 in
    record { sizes = b.sizes ∙ a.sizes; opening = b.opening ∙ a.opening; room = b.room ∙ a.room; halted = b.halted ∙ a.halted }

-- a state without the flag is as it is
pub unhalted_is : (w : State) → w.halted ≡ false → unhalted w ≡ w
unhalted_is w h = ap (λ b. let x : State = record w { halted = b } in x) (sym h)

-- a state reached by events from an opening
pub reached_by : (setup : Setup) (p : Place) (room : ℕ) (es : List Happening) → IsOpening setup p room → AllFit (sizes_of setup) es →
    IsReached setup (run es (opened (sizes_of setup) p room))
reached_by setup p room es o f = record {
  place = p;
  room = room;
  events = es;
  opening = o;
  fit = f;
  state = unhalted_is (run es (opened (sizes_of setup) p room)) (run_same es (opened (sizes_of setup) p room)).halted;
}

-- ---- one event more, the halt flag aside

-- a step under the flag changes nothing
step_halted : (w : State) (id : StreamId) (passage : Passage) → w.halted ≡ true → (step w id passage).1 ≡ w
step_halted w id passage h = ap (λ b. (if b then unchanged w played.Halted
    else if is_begun w id then (if (progress_of w id).done then unchanged w played.Done else made w id passage (next_instruction w id))
    else unchanged w played.Unknown).1) h

abbrev IsOfStream : Happening → Type 0
IsOfStream (Step id) = Unit {0}
IsOfStream (Lose id after) = Unit {0}
IsOfStream _ = ⊥

-- an event changes nothing, or it changes the state without the flag in the same way
abbrev IsAlike : State → Happening → State → Type 0
IsAlike w e new = (new ≡ w) ⊎ ((happens (unhalted w) e).1 ≡ unhalted new)

alike_by_events : (w : State) (e : Happening) → IsOfStream e ⊎ IsAlike w e (happens w e).1
alike_by_events w e = of_happens w (λ e o. IsOfStream e ⊎ IsAlike w e o.1) (record {
  idle = λ e answer n. inr (inl refl);
  steps = λ id. of_any (λ o. IsOfStream (Step id) ⊎ IsAlike w (Step id) o.1) (λ o. inl tt);
  loses = λ id after. of_any (λ o. IsOfStream (Lose id after) ⊎ IsAlike w (Lose id after) o.1) (λ o. inl tt);
  refills = λ id more f. inr (inr (ap (λ o. (refilled (unhalted w) id more o).1) f));
  arrives = λ s v f. inr (inr (ap (λ b. request s v None (event.Arrive s v) b) f));
  passes_on = λ t o f. inr (inr (ap (λ b. (if b then requested (unhalted w) t.shard t.target (Some t) (event.PassOn t.place) else unchanged (unhalted w) played.Unknown).1) o
      ∙ ap (λ b. request t.shard t.target (Some t) (event.PassOn t.place) b) f));
  approves = λ v f. inr (inr (ap (λ o. (approved (unhalted w) v o).1) f));
  restarts = λ v f. inr (inr (ap (λ b. (if b
      then (Answered played.Up, record (unhalted w) { place = set_down w.place v false; log = logged w (event.Done v) played.Up })
      else unchanged (unhalted w) played.Unknown).1) f));
  starts = λ plan h f g. inr (inr (ap (λ o. (begun (unhalted w) plan o).1) h ∙ ap (λ b. start plan b (has_all_plans w)) f ∙ ap (λ b. start plan false b) g));
}) e
  where
    request : (s v : ℕ) (sent : Option Ticket) (x : Event) (full : Bool) → State
    request s v sent x full = (if full then unchanged (unhalted w) played.LogFull else (Answered (reply_of w s v sent), recorded (unhalted w) x (reply_of w s v sent))).1

    start : (plan : PlanModel) (full many : Bool) → State
    start plan full many = (if full then unchanged (unhalted w) (played.NotBegun fault.LogFull)
        else if many then unchanged (unhalted w) (played.NotBegun fault.TooManyPlans)
        else (Answered (played.Begun (length w.plans)), started (unhalted w) plan)).1

pub alike : (w : State) (e : Happening) → IsAlike w e (happens w e).1
alike w e = elim (cases_Bool w.halted) [
  | inr h ↦ inr (ap (λ x. (happens x e).1) (unhalted_is w h) ∙ sym (unhalted_is (happens w e).1 ((same_machine w e).halted ∙ h)))
  | inl h ↦ elim (alike_by_events w e) [ inl s ↦ inl (under_flag e s h) | inr a ↦ a ]
]
  where
    under_flag : (e : Happening) → IsOfStream e → w.halted ≡ true → (happens w e).1 ≡ w
    under_flag (Step id) s h = step_halted w id Through h
    under_flag (Lose id after) s h = step_halted w id (if after then LostAfter else LostBefore) h
    under_flag _ s h = absurd s

-- events lead on from a state that events lead to, also where the flag was set or cleared in between
pub reached_next : (setup : Setup) (w : State) (e : Happening) → IsReached setup w → FitsConfig w.sizes e → IsReached setup (happens w e).1
reached_next setup w e r fits = elim (alike w e) [
  | inl q ↦ subst (IsReached setup) (sym q) r
  | inr q ↦
      let from = opened (sizes_of setup) r.place r.room in
      let sizes : w.sizes ≡ sizes_of setup = ap (λ x. x.sizes) r.state ∙ (run_same r.events from).sizes in
      record {
        place = r.place;
        room = r.room;
        events = r.events ++ e ∷ [];
        opening = r.opening;
        fit = fit_push (sizes_of setup) r.events e r.fit (subst (λ c. FitsConfig c e) sizes fits);
        state = sym q ∙ ap (λ x. (happens x e).1) r.state ∙ sym (run_push r.events e from);
      }
]

-- and so it is along a list of events
pub reached_run : (setup : Setup) (es : List Happening) (w : State) → IsReached setup w → AllFit w.sizes es → IsReached setup (run es w)
reached_run setup [] w r fit = r
reached_run setup (e ∷ es) w r fit = reached_run setup es (happens w e).1 (reached_next setup w e r fit.0) (subst (λ c. AllFit c es) (sym (same_machine w e).sizes) fit.1)

-- what a state that events lead to has of its opening
pub record IsOfOpening (setup : Setup) (w : State) : Type 0 where
  pub sizes : w.sizes ≡ sizes_of setup
  pub place : Place
  pub opening : w.opening ≡ forget_numbers place
  pub is_opening : IsOpening setup place w.room

-- A fact that holds at every opening, and is kept by every event at a state that events lead to, holds of every such state.
pub by_events : (setup : Setup) (P : State → Type 0) →
    ((p : Place) (room : ℕ) → IsOpening setup p room → P (opened (sizes_of setup) p room)) →
    ((w : State) (e : Happening) → IsReached setup w → FitsConfig w.sizes e → P w → P (happens w e).1) →
    (w : State) → IsReached setup w → P (unhalted w)
by_events setup P base next w r = subst P (sym r.state) (go r.events (opened (sizes_of setup) r.place r.room) (reached_by setup r.place r.room [] r.opening tt) r.fit (base r.place r.room r.opening))
  where
    go : (es : List Happening) (u : State) → IsReached setup u → AllFit u.sizes es → P u → P (run es u)
    go [] u at f p = p
    go (e ∷ es) u at f p = go es (happens u e).1 (reached_next setup u e at f.0) (subst (λ c. AllFit c es) (sym (same_machine u e).sizes) f.1) (next u e at f.0 p)

-- a state that events lead to has the sizes, the placement and the room of its opening
pub of_opening : (setup : Setup) (w : State) → IsReached setup w → IsOfOpening setup w
of_opening setup w r =
    let from = opened (sizes_of setup) r.place r.room in
    let same = run_same r.events from in
    let room : w.room ≡ r.room = ap (λ x. x.room) r.state ∙ same.room in
    record {
      sizes = ap (λ x. x.sizes) r.state ∙ same.sizes;
      place = r.place;
      opening = ap (λ x. x.opening) r.state ∙ same.opening;
      is_opening = subst (IsOpening setup r.place) (sym room) r.opening;
    }
