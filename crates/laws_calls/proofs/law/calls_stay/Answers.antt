-- The law is the lemma on every state that events lead to.
use Rattle.laws_calls.proofs.Tries.{calls_stay}
use Rattle.laws_calls.proofs.law.calls_stay.Goals as goal

pub returns : goal.returns
returns g = calls_stay
