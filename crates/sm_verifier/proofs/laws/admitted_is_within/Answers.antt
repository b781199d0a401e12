use Rattle.sm_verifier.proofs.WithinPool.{admitted_within, within_admitted}
use Rattle.sm_verifier.proofs.laws.admitted_is_within.Goals as goal

pub returns : goal.returns
returns c = record { within = admitted_within; admitted = within_admitted }
