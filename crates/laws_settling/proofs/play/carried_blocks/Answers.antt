-- The play is computed.
use Rattle.laws_settling.proofs.Plays.{carried_blocks}
use Rattle.laws_settling.proofs.play.carried_blocks.Goals as goal

pub returns : goal.returns
returns c = carried_blocks
