-- The law is the lemma on every state that events lead to.
use Rattle.sm_protocol.proofs.Allowed.{tries_are_allowed}
use Rattle.sm_protocol.proofs.law.tries_are_allowed.Goals as goal

pub returns : goal.returns
returns c = tries_are_allowed c.answered_where_allowed.ensures
