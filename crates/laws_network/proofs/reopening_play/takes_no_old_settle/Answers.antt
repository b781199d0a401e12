-- The play is computed.
use Rattle.laws_network.proofs.Plays.{takes_no_old_settle}
use Rattle.laws_network.proofs.reopening_play.takes_no_old_settle.Goals as goal

pub returns : goal.returns
returns g = takes_no_old_settle
