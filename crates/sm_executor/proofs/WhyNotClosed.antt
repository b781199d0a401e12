-- Why a board is not closed.
use Rattle.std.proofs.Common.{◌≡◌, length}
use Rattle.sm_protocol.specs.State.{State}
use Rattle.sm_protocol.specs.Laws.{AreDone}
use Rattle.sm_executor.specs.Closed.{unfinished_streams}
use Rattle.sm_executor.proofs.StillRunning.{none_left}

-- where a stream is listed, not all have made their ends
pub some_left : (w : State) → ¬ (length (unfinished_streams w) ≡ 0) → ¬ AreDone w
some_left w more done = more (none_left w done)
