-- The play is computed.
use Rattle.laws_network.proofs.Plays.{carries_none_settled}
use Rattle.laws_network.proofs.reopening_play.carries_none_settled.Goals as goal

pub returns : goal.returns
returns g = carries_none_settled
