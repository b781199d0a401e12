use Rattle.std.specs.Prelude.{vec_len}
use Rattle.sm_executor.proofs.shares.spend_ended.Given as goal

abbrev pub decreases-loop-end : goal.decreases-loop-end
decreases-loop-end g l = vec_len l.ended
