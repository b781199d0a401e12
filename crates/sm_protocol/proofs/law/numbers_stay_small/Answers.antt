-- The law is the lemma on every state that events lead to.
use Rattle.sm_protocol.proofs.SmallNumbers.{numbers_stay_small}
use Rattle.sm_protocol.proofs.law.numbers_stay_small.Goals as goal

pub returns : goal.returns
returns g = numbers_stay_small
