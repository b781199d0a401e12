use Rattle.sm_plan_code.proofs.Known.{instr_fits, fits_reachable, same_reachable, restarted_reachable}
use Rattle.sm_plan_code.proofs.law.stays_reachable.Goals as goal

pub returns : goal.returns
returns g = record {
  fits = λ shards servers plan k p stream i fits e f. instr_fits shards servers plan k p stream i fits e f;
  reachable = λ c p i fits up. fits_reachable c p i fits up;
  same = λ c p q i same at. same_reachable c p q i same at;
  restarted = λ c p i v down other at. restarted_reachable c p i v down other at;
}
