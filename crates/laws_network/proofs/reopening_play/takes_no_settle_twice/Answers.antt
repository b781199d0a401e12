-- The play is computed.
use Rattle.laws_network.proofs.Plays.{takes_no_settle_twice}
use Rattle.laws_network.proofs.reopening_play.takes_no_settle_twice.Goals as goal

pub returns : goal.returns
returns g = takes_no_settle_twice
