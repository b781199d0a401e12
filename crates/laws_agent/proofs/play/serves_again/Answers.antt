-- The play is computed.
use Rattle.laws_agent.proofs.Plays.{serves_again}
use Rattle.laws_agent.proofs.play.serves_again.Goals as goal

pub returns : goal.returns
returns c = serves_again c.brings_back.ensures
