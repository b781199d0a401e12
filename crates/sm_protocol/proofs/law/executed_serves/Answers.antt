-- The law is the lemma on every state that events lead to.
use Rattle.sm_protocol.proofs.Passable.{executed_serves}
use Rattle.sm_protocol.proofs.law.executed_serves.Goals as goal

pub returns : goal.returns
returns g = executed_serves
