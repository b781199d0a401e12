use Rattle.std.specs.Prelude.{vec_len}
use Rattle.sm_executor.proofs.shares.spend_callers.Given as goal

abbrev pub decreases-loop-caller : goal.decreases-loop-caller
decreases-loop-caller g l = vec_len l.callers
