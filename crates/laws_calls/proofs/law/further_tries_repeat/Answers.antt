-- The law is the lemma on every state that events lead to.
use Rattle.laws_calls.proofs.Tries.{further_tries_repeat}
use Rattle.laws_calls.proofs.law.further_tries_repeat.Goals as goal

pub returns : goal.returns
returns g = further_tries_repeat
