-- A step over a link that loses nothing is a step.
use Rattle.std.specs.Prelude.{ℕ, Bool, true, false, ◌≡◌}
use Rattle.std.proofs.Common.{ap, refl, subst}
use Rattle.sm_placement.specs.Setup.{Setup}
use Rattle.sm_reservation.specs.declared.stream_id.StreamId.{StreamId}
use Rattle.sm_protocol.specs.declared.event.Passage.{Passage}
use Rattle.sm_protocol.specs.declared.event.Passage.TheVariants.{Through}
use Rattle.sm_protocol.specs.declared.event.Played.{Played}
use Rattle.sm_protocol.specs.State.{State}
use Rattle.sm_protocol.specs.Steps.{Outcome, Answered}
use Rattle.sm_protocol.specs.Happens.{happens}
use Rattle.sm_machine.specs.Losses.{event_over, makes_try}
use Rattle.sm_executor.specs.Stepping.{HasStepped, HasMadeStep}
use Rattle.sm_executor.specs.Views.{RunnerModel}

-- its step is the stream's next step
pub made_surely : {L : Type 0} {old new : L} {setup : Setup} {opened : State} {before after : RunnerModel} {answer : Played}
    → HasStepped (λ (old : L) (id : StreamId) (number : ℕ) (passage : Passage) (new : L). passage ≡ Through) old new setup opened before after answer → HasMadeStep setup opened before after answer
made_surely {L} {old} {new} {setup} {opened} {before} {after} {answer} s = record {
  now = s.now;
  step = s.step;
  event = subst (λ p. (happens s.now (event_over before.stream p)).0 ≡ Answered answer) through (ap (λ (r : Outcome × State). r.0) s.over.event);
}
  where
    by_try : (b : Bool) → makes_try s.now before.stream ≡ b → s.over.passage ≡ Through
    by_try true e = s.over.tried e
    by_try false e = (s.over.untried e).1

    through : s.over.passage ≡ Through
    through = by_try (makes_try s.now before.stream) refl
