-- The play is computed.
use Rattle.laws_settling.proofs.Plays.{has_end}
use Rattle.laws_settling.proofs.play.has_end.Goals as goal

pub returns : goal.returns
returns c = has_end
