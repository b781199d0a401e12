-- The law is the lemma on every list of events.
use Rattle.sm_protocol.proofs.Plays.{plays_are_safe}
use Rattle.sm_protocol.proofs.law.plays_are_safe.Goals as goal

pub returns : goal.returns
returns g = plays_are_safe
