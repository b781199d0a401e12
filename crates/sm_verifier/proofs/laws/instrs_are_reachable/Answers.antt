use Rattle.sm_verifier.proofs.Turns.{reachable}
use Rattle.sm_verifier.proofs.laws.instrs_are_reachable.Goals as goal

pub returns : goal.returns
returns c = reachable
