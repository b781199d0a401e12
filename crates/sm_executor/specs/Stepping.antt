-- A stream's step at a board. No contract has a name for the state behind the lock at that moment, so the step is told
-- by some state of the board. `is_waiting` is internal: you need not read it for the public contracts.
use Rattle.std.specs.Prelude.{ℕ, Bool, true, false, ◌≡◌}
use Rattle.sm_placement.specs.Setup.{Setup}
use Rattle.sm_reservation.specs.declared.stream_id.StreamId.{StreamId}
use Rattle.sm_protocol.specs.declared.event.Passage.{Passage}
use Rattle.sm_protocol.specs.declared.event.Played.{Played}
use Rattle.sm_protocol.specs.State.{State, progress_of}
use Rattle.sm_protocol.specs.Steps.{Answered}
use Rattle.sm_protocol.specs.Happens.{happens, Step as NextStep}
use Rattle.sm_machine.specs.declared.step.Step.{Step}
use Rattle.sm_machine.specs.declared.step.Step.TheVariants.{Blocked}
use Rattle.sm_machine.specs.Losses.{IsStepOver}
use Rattle.sm_executor.specs.Closed.{IsBoardState}
use Rattle.sm_executor.specs.Counting.{Counts}
use Rattle.sm_executor.specs.Views.{RunnerModel}

-- the stream waits for a signal
abbrev pub is_waiting : Step → Bool
is_waiting (Blocked signal) = true
is_waiting _ = false

-- a state of the board at which a runner's stream makes a step with this answer, and what that does to the runner's
-- count
pub record IsStepAt (setup : Setup) (opened now : State) (before after : RunnerModel) (answer : Played) : Type 0 where
  pub state : IsBoardState setup opened now
  pub counts : Counts (progress_of now before.stream).done answer before.steps after.steps

-- At such a state the stream has made its step over the link: the link was asked once if the step tries a call there,
-- and otherwise not at all, and Lost is answered exactly if it has lost the try.
pub record HasStepped {L : Type 0} (asked : L → StreamId → ℕ → Passage → L → Type 0) (old new : L) (setup : Setup) (opened : State) (before after : RunnerModel) (answer : Played) : Type 0 where
  pub now : State
  pub next : State
  pub step : IsStepAt setup opened now before after answer
  pub over : IsStepOver asked old new now before.stream answer next

-- At such a state the stream has made its next step, of which this is the answer.
pub record HasMadeStep (setup : Setup) (opened : State) (before after : RunnerModel) (answer : Played) : Type 0 where
  pub now : State
  pub step : IsStepAt setup opened now before after answer
  pub event : (happens now (NextStep before.stream)).0 ≡ Answered answer
