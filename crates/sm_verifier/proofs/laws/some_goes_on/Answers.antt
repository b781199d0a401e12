use Rattle.sm_verifier.proofs.Progress.{some_goes_on}
use Rattle.sm_verifier.proofs.laws.some_goes_on.Goals as goal

pub returns : goal.returns
returns c = some_goes_on
