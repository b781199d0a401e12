-- The play is computed.
use Rattle.laws_rounds.proofs.Plays.{ends_in_six_rounds}
use Rattle.laws_rounds.proofs.play.ends_in_six_rounds.Goals as goal

pub returns : goal.returns
returns c = ends_in_six_rounds
