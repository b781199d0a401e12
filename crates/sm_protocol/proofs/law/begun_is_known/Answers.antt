-- The law is the lemma on every state that events lead to.
use Rattle.sm_protocol.proofs.Unspent.{begun_is_known}
use Rattle.sm_protocol.proofs.law.begun_is_known.Goals as goal

pub returns : goal.returns
returns g = begun_is_known
