use Rattle.sm_verifier.proofs.Deciding.{finds_fault}
use Rattle.sm_verifier.proofs.verdict.finds_fault.Goals as goal

pub returns : goal.returns
returns c = finds_fault
