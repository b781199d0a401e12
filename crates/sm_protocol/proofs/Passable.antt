-- Every event keeps the numbers under which requests may have been passed on, so who executes a request serves its shard.
use Rattle.sm_protocol.proofs.Below.{◌≡◌, ℕ, Ok, subst, if◌then◌else◌, CallEffect, StreamId, Instr, ServerCall, numbers_after, CanBePassed, passed_by_lead, passed_of_lead}
use Rattle.sm_protocol.proofs.Words.{Passage, Through, LostBefore, LostAfter, Happening, happens, State, EachReached, ExecutedServes}
use Rattle.sm_protocol.proofs.Invariant.{IsKept}
use Rattle.sm_protocol.proofs.Cases.{IsTry, answer_to, OfSteps, of_happens}
use Rattle.sm_protocol.proofs.Tries.{by_answer, first_effect}
use Rattle.sm_protocol.proofs.Whole.{reached_keeps}
use Rattle.sm_protocol.proofs.Requests.{IsLed, PassesFit}
use Rattle.sm_protocol.proofs.Passes.{KeepsPassable, passes_kept, passes_at_opening, serves_by_passes}
use Rattle.sm_protocol.proofs.Reached.{by_events}

-- what the server of a call answers keeps the numbers under which requests may have been passed on
abbrev KeepsOver : State → Instr → CallEffect → Type 0
KeepsOver w i effect = (s m : ℕ) → CanBePassed (w.place.cells s) (w.numbers s) m →
    CanBePassed (effect.place.cells s) ((if effect.fresh then numbers_after w.numbers i else w.numbers) s) m

answer_keeps : (w : State) → IsKept w → (id : StreamId) (i : Instr) (x : ServerCall) (effect : CallEffect) → IsTry w id i x → answer_to w id x ≡ Ok effect → KeepsOver w i effect
answer_keeps w v id i x effect t answer = by_answer w v id i x t effect answer (KeepsOver w i)
    (λ a s m h.
    let e = (first_effect w v id i x t a).effect in
    let f = passed_of_lead (v.leads s) (w.numbers s) (w.place.cells s) (v.stage.described s) m h in
    subst (λ g. CanBePassed (e.next_place.cells s) (g s) m) e.numbered
    (passed_by_lead (e.next_leads s) (e.next_numbers s) (e.next_place.cells s) (e.scene.described s) m (e.passed s m f)))
    (λ a s m h. h)

passable_by_steps : (w : State) → IsKept w → (id : StreamId) (passage : Passage) → OfSteps w id passage (λ o. KeepsPassable w o.1)
passable_by_steps w v id passage = record {
  idle = λ answer s m h. h;
  refused = λ i x why t e s m h. h;
  at_end = λ b s m h. h;
  publishes = λ i s server b c r m h. h;
  posts = λ q b s m h. h;
  awaits = λ q b e s m h. h;
  lost = λ i x t p s m h. h;
  through = λ i x effect t a p. answer_keeps w v id i x effect t a;
  unanswered = λ i x effect t a p. answer_keeps w v id i x effect t a;
}

-- a number under which a request may have been passed on stays one over every event
keeps_passable : (w : State) → IsKept w → (e : Happening) → KeepsPassable w (happens w e).1
keeps_passable w v = of_happens w (λ e o. KeepsPassable w o.1) (record {
  idle = λ e answer n s m h. h;
  steps = λ id. passable_by_steps w v id Through;
  loses = λ id after. passable_by_steps w v id (if after then LostAfter else LostBefore);
  refills = λ id more f s m h. h;
  arrives = λ r u f s m h. h;
  passes_on = λ t o f s m h. h;
  approves = λ u f s m h. h;
  restarts = λ u f s m h. h;
  starts = λ plan a b c s m h. h;
})

led : (w : State) → IsKept w → IsLed w
led w v = record { leads = v.leads; described = v.stage.described }

-- who executes a request is the one server that serves its shard
pub executed_serves : EachReached ExecutedServes
executed_serves setup w reached e s u a q =
    let fit = by_events setup PassesFit (passes_at_opening setup) (λ x y at f p. let v = (reached_keeps setup x at).0 in passes_kept x y (led x v) (keeps_passable x v y) p) w reached in
    serves_by_passes w (led w (reached_keeps setup w reached).0) (record { fit = fit.fit }) e s u a q
