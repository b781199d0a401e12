use Rattle.sm_verifier.proofs.Holdings.{finds_holding}
use Rattle.sm_verifier.proofs.verdict.finds_holding.Goals as goal

pub returns : goal.returns
returns c = finds_holding
