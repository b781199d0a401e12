-- The law is the lemma on every state that events lead to.
use Rattle.sm_protocol.proofs.EffectCounts.{effects_are_counted}
use Rattle.sm_protocol.proofs.law.effects_are_counted.Goals as goal

pub returns : goal.returns
returns g = effects_are_counted
