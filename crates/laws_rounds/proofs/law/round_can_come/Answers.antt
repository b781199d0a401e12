-- The law is the lemma that what is outstanding can come, stream by stream.
use Rattle.laws_rounds.proofs.Comes.{round_can_come}
use Rattle.laws_rounds.proofs.law.round_can_come.Goals as goal

pub returns : goal.returns
returns c = round_can_come
