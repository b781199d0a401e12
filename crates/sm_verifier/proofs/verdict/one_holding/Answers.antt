use Rattle.sm_verifier.proofs.VerdictCases.{same_holding, admitted_without_holding}
use Rattle.sm_verifier.proofs.verdict.one_holding.Goals as goal

pub returns : goal.returns
returns c = record { same = same_holding; admitted = admitted_without_holding }
