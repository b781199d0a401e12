use Rattle.sm_verifier.proofs.Turns.{in_turn}
use Rattle.sm_verifier.proofs.laws.good_streams_go_on.Goals as goal

pub returns : goal.returns
returns c = in_turn
