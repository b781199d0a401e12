-- A stream's end at a board. No contract has a name for the state behind the lock at that moment, so the end is told by
-- some state of the board.
use Rattle.std.specs.Prelude.{◌≡◌, true, false}
use Rattle.sm_placement.specs.Setup.{Setup}
use Rattle.sm_protocol.specs.State.{State}
use Rattle.sm_machine.specs.Retired.{has_ended, made_in}
use Rattle.sm_executor.specs.Closed.{IsBoardState}
use Rattle.sm_executor.specs.Views.{EndedModel, RunnerModel, running, end_in}

-- At a state of the board the stream has finished, its steps, its tries and how many it was allowed are what that state
-- has of it, and its steps are its steps and lost tries in the log.
pub record HasEnded (setup : Setup) (opened : State) (finish : EndedModel) : Type 0 where
  pub now : State
  pub state : IsBoardState setup opened now
  pub done : has_ended now finish.stream ≡ true
  pub counts : finish ≡ end_in now (running finish.stream finish.counted)
  pub made : finish.steps ≡ made_in finish.stream now.log

-- At a state of the board the runner's stream has not finished.
pub record HasNotEnded (setup : Setup) (opened : State) (runner : RunnerModel) : Type 0 where
  pub now : State
  pub state : IsBoardState setup opened now
  pub not_done : has_ended now runner.stream ≡ false
