-- The law is the lemma on parcels that are awaited.
use Rattle.std.proofs.Common.{refl}
use Rattle.sm_plan_code.proofs.Parcels.{wait_counts}
use Rattle.sm_plan_code.proofs.law.wait_takes.Goals as goal

pub returns : goal.returns
returns g = λ c p numbers signals h h' k apart e. (refl, wait_counts h h' (signals k) apart e)
