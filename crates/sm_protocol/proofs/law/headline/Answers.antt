-- The law is the lemma on every state that events lead to.
use Rattle.sm_protocol.proofs.Onward.{headline}
use Rattle.sm_protocol.proofs.law.headline.Goals as goal

pub returns : goal.returns
returns g = headline
