-- The play is computed.
use Rattle.laws_network.proofs.Plays.{brings_back}
use Rattle.laws_network.proofs.reopening_play.brings_back.Goals as goal

pub returns : goal.returns
returns g = brings_back
