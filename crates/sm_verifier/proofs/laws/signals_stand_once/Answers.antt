use Rattle.sm_verifier.proofs.Once.{stand_once, are_of_plan}
use Rattle.sm_verifier.proofs.laws.signals_stand_once.Goals as goal

pub returns : goal.returns
returns c = record { once = stand_once; known = are_of_plan }
