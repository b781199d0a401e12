-- The state in which the calls of some streams have had their effects and are not answered: the protocol leads to it, and its
-- placement has these calls made.
use Rattle.std.proofs.Common.{◌≡◌, ℕ, ◌+◌, refl, sym, ap, ◌∙◌, inl, inr, subst, true, false, Some, List, [], ◌∷◌}
use Rattle.std.specs.Prelude.{◌==◌, slice_get}
use Rattle.sm_server.specs.declared.call.Cell.{Cell}
use Rattle.sm_placement.specs.Place.{Place, called, with_lasts}
use Rattle.sm_placement.specs.Setup.{Setup}
use Rattle.sm_placement.specs.SafePlace.{IsSafePlace}
use Rattle.sm_reservation.specs.declared.stream_id.StreamId.{StreamId}
use Rattle.sm_plan_code.specs.declared.instruction.Instr.{Instr}
use Rattle.sm_plan_code.specs.declared.call.ServerCall.{ServerCall}
use Rattle.sm_plan_code.specs.Acts.{next_call, numbers_after}
use Rattle.sm_plan_code.proofs.Passings.{CanBePassed, passed_by_lead, passed_of_lead}
use Rattle.sm_placement.specs.Lead.{Describes}
use Rattle.sm_placement.specs.declared.lead.Lead.{Lead}
use Rattle.sm_protocol.specs.State.{Progress, Start, State, allowance, is_begun, next_instruction, progress_of, stream_parts}
use Rattle.sm_protocol.specs.Happens.{Lose, happens}
use Rattle.sm_protocol.specs.Laws.{IsReached}
use Rattle.sm_protocol.proofs.Invariant.{IsKept}
use Rattle.sm_protocol.proofs.Reached.{reached_next}
use Rattle.sm_protocol.proofs.Whole.{reached_keeps}
use Rattle.sm_protocol.proofs.Onward.{with_losses}
use Rattle.laws_network.proofs.Traced.{instruction_call, call_now}
use Rattle.laws_network.proofs.Overlay.{AreOnce, IsIn, IsServedAt, call_made, called_is, called_served, made_at, number_made, over_numbers, overlay}
use Rattle.laws_network.proofs.Apart.{IsAtCall, next_stays}
use Rattle.laws_network.proofs.Calls.{IsCallMade, IsReady, has_effect, is_called, made_by_lose}

-- a stream at a call makes it next
pub call_is : {w : State} {id : StreamId} {i : Instr} {x : ServerCall} → IsAtCall w id i x → call_now w id ≡ Some x
call_is {w} t = ap (instruction_call w.numbers) t.before.next_is ∙ t.next

-- ---- states that are alike for a stream

module _ (w new : State) (id : StreamId) (plans : new.plans ≡ w.plans) (progress : progress_of new id ≡ progress_of w id) where
  abbrev with_plans : List Start → State
  with_plans pl = record w { plans = pl }

  -- whether it was begun, and what it makes next, are the same
  pub begun_same : is_begun new id ≡ is_begun w id
  begun_same = ap (λ pl. is_begun (with_plans pl) id) plans

  -- the stream stands before the same instruction
  pub next_same : next_instruction new id ≡ next_instruction w id
  next_same = ap (λ pl. slice_get (stream_parts (with_plans pl) id).code (progress_of new id).at) plans ∙ ap (λ (y : Progress). slice_get (stream_parts w id).code y.at) progress

  unspent_same : ((progress_of new id).tries == allowance new id) ≡ ((progress_of w id).tries == allowance w id)
  unspent_same =
      ap (λ pl. (progress_of new id).tries == (stream_parts (with_plans pl) id).budget + (stream_parts (with_plans pl) id).retries + (progress_of new id).refills) plans
      ∙ ap (λ (y : Progress). y.tries == (stream_parts w id).budget + (stream_parts w id).retries + y.refills) progress

  -- and before the same call, if the numbers give that instruction the same one
  pub at_call_same : (i : Instr) (x : ServerCall) → next_call new.numbers i ≡ next_call w.numbers i → IsAtCall w id i x → IsAtCall new id i x
  at_call_same i x n t = record {
    before = record { begun = begun_same ∙ t.before.begun; running = ap (λ (y : Progress). y.done) progress ∙ t.before.running; next_is = next_same ∙ t.before.next_is };
    call = t.call;
    next = n ∙ t.next;
  }

  -- it can try its call in one if it can in the other
  pub ready_same : (i : Instr) (x : ServerCall) → next_call new.numbers i ≡ next_call w.numbers i → IsReady w id i x → IsReady new id i x
  ready_same i x n r = record {
    at = at_call_same i x n r.at;
    unmade = ap (λ (y : Progress). y.ahead) progress ∙ r.unmade;
    unspent = unspent_same ∙ r.unspent;
  }

-- ---- the calls of several streams

-- each of these streams can try its call
abbrev pub AreReady : State → List StreamId → Type 0
AreReady w ids = (id : StreamId) → IsIn ids id → (i : Instr) × (x : ServerCall) × IsReady w id i x

-- the state in which a stream's call has had its effect, and the answer is lost
abbrev pub lost : State → StreamId → State
lost w id = (happens w (Lose id true)).1

-- the state in which their calls have had their effects, and the answers are lost
abbrev pub ahead_of : List StreamId → State → State
ahead_of [] w = w
ahead_of (id ∷ ids) w = lost (ahead_of ids w) id

pub record IsMade (setup : Setup) (w : State) (ids : List StreamId) (new : State) : Type 0 where
  pub reached : IsReached setup new
  pub sizes : new.sizes ≡ w.sizes
  pub plans : new.plans ≡ w.plans
  pub halted : new.halted ≡ false
  pub place : new.place ≡ (let z : Place = record w.place { cells = overlay w ids w.place.cells; last = new.place.last } in z)
  pub numbers : new.numbers ≡ over_numbers w ids w.numbers
  pub others : (id : StreamId) → (IsIn ids id → ⊥) → progress_of new id ≡ progress_of w id
  pub calls : (id : StreamId) (i : Instr) (x : ServerCall) → (IsIn ids id → ⊥) → IsReady w id i x → next_call new.numbers i ≡ next_call w.numbers i

-- a stream whose call was not made can still try it
pub ready_there : {setup : Setup} {w : State} {ids : List StreamId} {new : State} → IsMade setup w ids new → (id : StreamId) (i : Instr) (x : ServerCall) → (IsIn ids id → ⊥) → IsReady w id i x → IsReady new id i x
ready_there {setup} {w} {ids} {new} all id i x n r = ready_same w new id all.plans (all.others id n) i x (all.calls id i x n r) r

-- one call more is made
module _ (setup : Setup) (a : StreamId) (ids : List StreamId) (w : State) (i : Instr) (x : ServerCall) (r : IsReady w a i x) (once : AreOnce (a ∷ ids)) (new : State) (all : IsMade setup w ids new) where
  v : IsKept new
  v = (reached_keeps setup new all.reached).0

  there : IsReady new a i x
  there = ready_there all a i x once.0 r

  m : IsCallMade new (lost new a) a i x
  m = made_by_lose new v a i x all.halted there

  pub one_more : IsMade setup w (a ∷ ids) (lost new a)
  one_more = record {
    reached = reached_next setup new (Lose a true) all.reached tt;
    sizes = m.sizes ∙ all.sizes;
    plans = m.plans ∙ all.plans;
    halted = m.halted ∙ all.halted;
    place = m.place
        ∙ ap (λ (p : Place). let z : Place = record p { cells = call_made x p.cells; last = (lost new a).place.last } in z) all.place
        ∙ ap (λ o. let z : Place = record w.place { cells = made_at o (overlay w ids w.place.cells); last = (lost new a).place.last } in z) (sym (call_is r.at));
    numbers = m.numbers ∙ ap (λ f. numbers_after f i) all.numbers ∙ ap (λ o. number_made o (over_numbers w ids w.numbers)) (sym r.at.before.next_is);
    others = λ id n. m.others id (λ e. n (inl e)) ∙ all.others id (λ e. n (inr e));
    calls = λ id j y n k.
        let n' = λ (h : IsIn ids id). n (inr h) in
        let other = ready_there all id j y n' k in
        ap (λ f. next_call f j) m.numbers
        ∙ next_stays new v a id (λ e. n (inl (sym e))) there.unmade other.unmade i j there.at.before other.at.before
        ∙ all.calls id j y n' k;
  }

-- The placement there has these calls made, one after the other.
pub made_all : (setup : Setup) (ids : List StreamId) (w : State) → IsReached setup w → w.halted ≡ false → AreReady w ids → AreOnce ids → IsMade setup w ids (ahead_of ids w)
made_all setup [] w reached h ready once = record {
  reached = reached;
  sizes = refl;
  plans = refl;
  halted = h;
  place = refl;
  numbers = refl;
  others = λ id n. refl;
  calls = λ id i x n r. refl;
}
made_all setup (a ∷ ids) w reached h ready once =
    let r = ready a (inl refl) in
    one_more setup a ids w r.0 r.1 r.2 once (ahead_of ids w) (made_all setup ids w reached h (λ id n. ready id (inr n)) once.1)

-- ---- what the servers have

-- the placement as it is recorded, where the servers have these cells and last numbers
abbrev pub with_real : State → (ℕ → ℕ → Cell) → (ℕ → ℕ → ℕ) → Place
with_real w cells last = record w.place { cells = cells; last = last }

module _ (setup : Setup) (w : State) (ids : List StreamId) (reached : IsReached setup w) (h : w.halted ≡ false) (ready : AreReady w ids) (once : AreOnce ids)
    (cells : ℕ → ℕ → Cell) (same : cells ≡ overlay w ids w.place.cells) (last : ℕ → ℕ → ℕ) where
  abbrev new : State
  new = ahead_of ids w

  all_made : IsMade setup w ids new
  all_made = made_all setup ids w reached h ready once

  place_is : new.place ≡ with_lasts new.place.last (with_real w cells last)
  place_is = all_made.place ∙ ap (λ f. let z : Place = record w.place { cells = f; last = new.place.last } in z) (sym same)

  -- the placement as the servers have it is safe
  pub real_safe : IsSafePlace w.sizes (with_real w cells last)
  real_safe =
      let safe = (with_losses setup new all_made.reached).1.place in
      let there : IsSafePlace w.sizes (with_lasts new.place.last (with_real w cells last)) = subst (λ c. IsSafePlace c (with_lasts new.place.last (with_real w cells last))) all_made.sizes (subst (λ p. IsSafePlace new.sizes p) place_is safe) in
      record { serving = there.serving; rooms = there.rooms; floors = there.floors; listed = there.listed }

  there_kept : IsKept new
  there_kept = (reached_keeps setup new all_made.reached).0

  -- and a stream that is none of these can have its call served there
  pub real_serves : (id : StreamId) (i : Instr) (x : ServerCall) → (IsIn ids id → ⊥) → IsReady w id i x → IsServedAt w.sizes cells x
  real_serves id i x n r =
      let is = is_called new there_kept id i x all_made.halted (ready_there all_made id i x n r) in
      subst (λ c. IsServedAt c cells x) all_made.sizes (called_served new.sizes (with_lasts new.place.last (with_real w cells last)) x _ (ap (λ p. called new.sizes p x.shard x.server x.call) (sym place_is) ∙ is))

  -- leads describe what the servers have, under the highest handover numbers there
  pub real_described : (leads : ℕ → Lead) × ((s : ℕ) → Describes (leads s) (over_numbers w ids w.numbers s) (cells s))
  real_described = (
    there_kept.leads,
    λ s. subst (λ f. Describes (there_kept.leads s) (f s) (cells s)) all_made.numbers (subst (λ (p : Place). Describes (there_kept.leads s) (new.numbers s) (p.cells s)) place_is (there_kept.stage.described s)),
  )

  -- a number under which a request may have been passed on stays one as the call is made
  pub real_passes : (id : StreamId) (i : Instr) (x : ServerCall) → (IsIn ids id → ⊥) → IsReady w id i x → (s number : ℕ) →
      CanBePassed (cells s) (over_numbers w ids w.numbers s) number → CanBePassed (call_made x cells s) (numbers_after (over_numbers w ids w.numbers) i s) number
  real_passes id i x n r s number h =
      let e = (has_effect new there_kept id i x all_made.halted (ready_there all_made id i x n r)).effect in
      let is = called_is new.sizes new.place x e.next_place (is_called new there_kept id i x all_made.halted (ready_there all_made id i x n r)) in
      let here : CanBePassed (new.place.cells s) (new.numbers s) number =
      subst (λ f. CanBePassed (new.place.cells s) (f s) number) (sym all_made.numbers) (subst (λ (p : Place). CanBePassed (p.cells s) (over_numbers w ids w.numbers s) number) (sym place_is) h) in
      let f = passed_of_lead (there_kept.leads s) (new.numbers s) (new.place.cells s) (there_kept.stage.described s) number here in
      let after = passed_by_lead (e.next_leads s) (e.next_numbers s) (e.next_place.cells s) (e.scene.described s) number (e.passed s number f) in
      let numbered : e.next_numbers ≡ numbers_after (over_numbers w ids w.numbers) i = e.numbered ∙ ap (λ g. numbers_after g i) all_made.numbers in
      let made : e.next_place.cells ≡ call_made x cells = ap (λ (p : Place). p.cells) is ∙ ap (λ (p : Place). call_made x p.cells) place_is in
      subst (λ g. CanBePassed (call_made x cells s) (g s) number) numbered (subst (λ g. CanBePassed (g s) (e.next_numbers s) number) made after)
