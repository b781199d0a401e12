-- The law is the lemma on what was told, by what servers that told still have and execute.
use Rattle.laws_settling.proofs.Settled.{can_settle}
use Rattle.laws_settling.proofs.law.can_settle.Goals as goal

pub returns : goal.returns
returns c = can_settle c.executes_safely.ensures c.told_is_had.ensures
