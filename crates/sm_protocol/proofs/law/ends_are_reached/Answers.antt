-- The law is the lemma on every state whose plans are done.
use Rattle.sm_protocol.proofs.EndsReached.{ends_are_reached}
use Rattle.sm_protocol.proofs.law.ends_are_reached.Goals as goal

pub returns : goal.returns
returns g = ends_are_reached
