-- The law is the lemma on every state that events lead to.
use Rattle.sm_protocol.proofs.Plays.{runs_are_safe}
use Rattle.sm_protocol.proofs.law.runs_are_safe.Goals as goal

pub returns : goal.returns
returns g = runs_are_safe
