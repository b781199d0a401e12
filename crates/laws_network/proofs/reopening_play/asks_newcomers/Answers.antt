-- The play is computed.
use Rattle.laws_network.proofs.Plays.{asks_newcomers}
use Rattle.laws_network.proofs.reopening_play.asks_newcomers.Goals as goal

pub returns : goal.returns
returns g = asks_newcomers
