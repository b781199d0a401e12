-- The number of plans that were begun.
use Rattle.std.proofs.Common.{◌≡◌, ◌≤◌, Bool, true, false, arith, length}
use Rattle.std.specs.Prelude.{if◌then◌else◌, nat_le, ◌||◌}
use Rattle.std.proofs.lemmas.Bool.{ltb-false}
use Rattle.sm_placement.specs.Setup.{Setup}
use Rattle.sm_reservation.specs.declared.stream_id.StreamId.{StreamId}
use Rattle.sm_plan_code.specs.declared.limits.TheConstants.{MOST_NUMBER, MOST_PLANS}
use Rattle.sm_protocol.specs.declared.event.Passage.{Passage}
use Rattle.sm_protocol.specs.declared.event.Passage.TheVariants.{Through, LostBefore, LostAfter}
use Rattle.sm_protocol.specs.State.{State}
use Rattle.sm_protocol.specs.Happens.{Happening, running_plans, happens}
use Rattle.sm_protocol.specs.Laws.{IsReached}
use Rattle.sm_protocol.proofs.Cases.{OfSteps, of_happens}
use Rattle.sm_protocol.proofs.LogRoom.{count_started}
use Rattle.sm_protocol.proofs.Reached.{by_events}

abbrev FewPlans : State → Type 0
FewPlans w = length w.plans ≤ 4294967296

few_by_steps : (w : State) (id : StreamId) (passage : Passage) → FewPlans w → OfSteps w id passage (λ o. FewPlans o.1)
few_by_steps w id passage h = record {
  idle = λ answer. h;
  refused = λ i x why t e. h;
  at_end = λ b. h;
  publishes = λ i s server b n. h;
  posts = λ q b. h;
  awaits = λ q b e. h;
  lost = λ i x t p. h;
  through = λ i x effect t a p. h;
  unanswered = λ i x effect t a p. h;
}

few_kept : (w : State) (e : Happening) → FewPlans w → FewPlans (happens w e).1
few_kept w e h = of_happens w (λ e o. FewPlans o.1) (record {
  idle = λ e answer n. h;
  steps = λ id. few_by_steps w id Through h;
  loses = λ id after. few_by_steps w id (if after then LostAfter else LostBefore) h;
  refills = λ id more n. h;
  arrives = λ s v n. h;
  passes_on = λ q o n. h;
  approves = λ v n. h;
  restarts = λ v n. h;
  starts = λ plan n l m. let c = count_started w plan in let few = ltb-false MOST_NUMBER (length w.plans) (second (nat_le MOST_PLANS (running_plans w)) _ m) in omega arith;
}) e
  where
    second : (a b : Bool) → (a || b) ≡ false → b ≡ false
    second true b e = absurd (cc)
    second false b e = e

-- a stream's plan has a number that fits
pub few_plans : (setup : Setup) (w : State) → IsReached setup w → length w.plans ≤ 4294967296
few_plans setup w reached = by_events setup FewPlans (λ p room o. omega arith) (λ u e at f h. few_kept u e h) w reached
