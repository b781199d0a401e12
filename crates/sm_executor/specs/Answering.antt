-- Answers of a board. No contract has a name for the state behind the lock at that moment, so the answer is told by
-- some state of the board.
use Rattle.std.specs.Prelude.{◌≡◌}
use Rattle.sm_placement.specs.Setup.{Setup}
use Rattle.sm_protocol.specs.declared.event.Played.{Played}
use Rattle.sm_protocol.specs.State.{State}
use Rattle.sm_protocol.specs.Steps.{Answered}
use Rattle.sm_protocol.specs.Happens.{Happening, happens}
use Rattle.sm_executor.specs.Closed.{IsBoardState}

-- At a state of the board what happens is answered so.
pub record HasAnswered (setup : Setup) (opened : State) (what : Happening) (answer : Played) : Type 0 where
  pub now : State
  pub state : IsBoardState setup opened now
  pub answered : (happens now what).0 ≡ Answered answer
