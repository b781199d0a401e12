use Rattle.std.specs.Prelude.{vec_len}
use Rattle.sm_machine.proofs.permit.close_permits.Given as goal

abbrev pub decreases-loop-permit : goal.decreases-loop-permit
decreases-loop-permit l = vec_len l.permits
