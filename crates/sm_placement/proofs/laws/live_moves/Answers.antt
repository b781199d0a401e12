use Rattle.sm_placement.proofs.Lives.{live_moves}
use Rattle.sm_placement.proofs.laws.live_moves.Goals as goal

pub returns : goal.returns
returns c = live_moves
