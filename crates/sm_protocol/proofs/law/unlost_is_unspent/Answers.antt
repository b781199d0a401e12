-- The law is the lemma on every state that events lead to.
use Rattle.sm_protocol.proofs.Unspent.{unlost_is_unspent}
use Rattle.sm_protocol.proofs.law.unlost_is_unspent.Goals as goal

pub returns : goal.returns
returns g = unlost_is_unspent
