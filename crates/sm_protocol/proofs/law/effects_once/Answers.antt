-- The law is the lemma on every list of events.
use Rattle.sm_protocol.proofs.EffectNumbers.{effects_once}
use Rattle.sm_protocol.proofs.law.effects_once.Goals as goal

pub returns : goal.returns
returns g = effects_once
