-- Events lead from a board's opening to each of its states, and what no event changes is as it was at the opening.
use Rattle.std.proofs.Common.{◌≡◌, ◌<◌, ℕ, Bool, true, false, refl, sym, ap, ◌∙◌, inl, inr, subst, List, [], ◌++◌}
use Rattle.std.specs.Prelude.{if◌then◌else◌}
use Rattle.std.proofs.lemmas.Bool.{cases_lt}
use Rattle.std.proofs.lemmas.List.{append_assoc, append-nil}
use Rattle.sm_placement.specs.Place.{set_down}
use Rattle.sm_placement.specs.Setup.{Setup, Sizes}
use Rattle.sm_reservation.specs.declared.stream_id.StreamId.{StreamId}
use Rattle.sm_protocol.specs.declared.event.Passage.{Passage}
use Rattle.sm_protocol.specs.declared.event.Passage.TheVariants.{Through, LostBefore, LostAfter}
use Rattle.sm_protocol.specs.declared.event.Event.TheVariants as event
use Rattle.sm_protocol.specs.declared.event.Played.TheVariants as played
use Rattle.sm_protocol.specs.State.{State, Start, logged}
use Rattle.sm_protocol.specs.Steps.{Answered, unchanged}
use Rattle.sm_protocol.specs.Happens.{Happening, Done, happens}
use Rattle.sm_protocol.specs.Laws.{FitsConfig, IsReached}
use Rattle.sm_protocol.proofs.Cases.{OfSteps, of_happens}
use Rattle.sm_protocol.proofs.Reached.{same_machine}
use Rattle.sm_machine.proofs.ties.Before.{kept}
use Rattle.sm_machine.specs.Losses.{event_over}
use Rattle.sm_executor.specs.Closed.{GoesOn, Stays, Plays, Flags}

-- ---- what is as it was

-- the numbers of the configuration are still those of the opening
pub sizes_stay : (opened now : State) → GoesOn opened now → now.sizes ≡ opened.sizes
sizes_stay opened now Stays = refl
sizes_stay opened now (Plays w e fits g) = (same_machine w e).sizes ∙ sizes_stay opened w g
sizes_stay opened now (Flags w flag g) = sizes_stay opened w g

-- and so is the placement from which the ends of plans are told
pub opening_stays : (opened now : State) → GoesOn opened now → now.opening ≡ opened.opening
opening_stays opened now Stays = refl
opening_stays opened now (Plays w e fits g) = (same_machine w e).opening ∙ opening_stays opened w g
opening_stays opened now (Flags w flag g) = opening_stays opened w g

-- the plans begun since the opening stand behind those that it had
abbrev pub HasMorePlans : State → State → Type 0
HasMorePlans opened now = (begun : List Start) × (now.plans ≡ opened.plans ++ begun)

no_more : (w : State) → HasMorePlans w w
no_more w = ([], sym (append-nil w.plans))

more_by_steps : (w : State) (id : StreamId) (passage : Passage) → OfSteps w id passage (λ o. HasMorePlans w o.1)
more_by_steps w id passage = record {
  idle = λ answer. no_more w;
  refused = λ i x why t e. no_more w;
  at_end = λ b. no_more w;
  publishes = λ i s server b n. no_more w;
  posts = λ q b. no_more w;
  awaits = λ q b e. no_more w;
  lost = λ i x t p. no_more w;
  through = λ i x effect t a p. no_more w;
  unanswered = λ i x effect t a p. no_more w;
}

more_by_event : (w : State) (e : Happening) → HasMorePlans w (happens w e).1
more_by_event w e = of_happens w (λ e o. HasMorePlans w o.1) (record {
  idle = λ e answer n. no_more w;
  steps = λ id. more_by_steps w id Through;
  loses = λ id after. more_by_steps w id (if after then LostAfter else LostBefore);
  refills = λ id more n. no_more w;
  arrives = λ s v n. no_more w;
  passes_on = λ q o n. no_more w;
  approves = λ v n. no_more w;
  restarts = λ v n. no_more w;
  starts = λ plan n l m. (_, refl);
}) e

-- no plan that had begun is forgotten
pub plans_stay : (opened now : State) → GoesOn opened now → HasMorePlans opened now
plans_stay opened now Stays = no_more opened
plans_stay opened now (Plays w e fits g) =
    let first = plans_stay opened w g in
    let more = more_by_event w e in
    (first.0 ++ more.0, more.1 ∙ ap (λ (ps : List Start). ps ++ more.0) first.1 ∙ append_assoc opened.plans first.0 more.0)
plans_stay opened now (Flags w flag g) = plans_stay opened w g

-- ---- what leads on

-- what is behind an event that fits the configuration goes on from the opening, if what was before does
pub led_by : (opened old new : State) (e : Happening) → FitsConfig old.sizes e → new ≡ (happens old e).1 → GoesOn opened old → GoesOn opened new
led_by opened old new e fits is g = subst (GoesOn opened) (sym is) (Plays old e (subst (λ (c : Sizes). FitsConfig c e) (sizes_stay opened old g) fits) g)

-- and so does what differs by the flag alone
pub led_by_flag : (opened old new : State) (flag : Bool) → new ≡ record old { halted = flag } → GoesOn opened old → GoesOn opened new
led_by_flag opened old new flag is g = subst (GoesOn opened) (sym is) (Flags old flag g)

-- a step over a link fits each configuration
pub step_fits : (w : State) (id : StreamId) (passage : Passage) → FitsConfig w.sizes (event_over id passage)
step_fits w id Through = tt
step_fits w id LostBefore = tt
step_fits w id LostAfter = tt

-- the end of a restart leads on, whatever permit it comes with: a server that is not of the configuration was never down
pub led_by_done : (setup : Setup) (opened old new : State) (v : ℕ) → IsReached setup old → new ≡ (happens old (Done v)).1 → GoesOn opened old → GoesOn opened new
led_by_done setup opened old new v reached is g = elim (cases_lt v old.sizes.servers) [
  | inl known ↦ led_by opened old new (Done v) known is g
  | inr beyond ↦ subst (GoesOn opened) (sym (is ∙ ap restarted ((kept setup old reached).stage.placement.no_down v beyond))) g
]
  where
    restarted : Bool → State
    restarted b = (if b then (Answered played.Up, record old { place = set_down old.place v false; log = logged old (event.Done v) played.Up }) else unchanged old played.Unknown).1
