-- The law is the lemma on fences that come.
use Rattle.laws_settling.proofs.Telling.{can_tell}
use Rattle.laws_settling.proofs.law.can_tell.Goals as goal

pub returns : goal.returns
returns c = can_tell
