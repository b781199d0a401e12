-- The law is the lemma on parcels that are posted.
use Rattle.std.proofs.Common.{refl}
use Rattle.sm_plan_code.proofs.Parcels.{signal_counts}
use Rattle.sm_plan_code.proofs.law.signal_gives.Goals as goal

pub returns : goal.returns
returns g = λ c p numbers signals h h' k apart e. (refl, signal_counts h h' (signals k) apart e)
