-- The play is computed.
use Rattle.laws_network.proofs.Plays.{moves_no_primary}
use Rattle.laws_network.proofs.reopening_play.moves_no_primary.Goals as goal

pub returns : goal.returns
returns g = moves_no_primary
