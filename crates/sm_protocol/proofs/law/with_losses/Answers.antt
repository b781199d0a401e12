-- The law is the lemma on every state that events lead to.
use Rattle.sm_protocol.proofs.Onward.{with_losses}
use Rattle.sm_protocol.proofs.law.with_losses.Goals as goal

pub returns : goal.returns
returns g = with_losses
