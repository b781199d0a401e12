-- The law is the lemma on every state that events lead to.
use Rattle.laws_calls.proofs.Tries.{tries_leave_numbers}
use Rattle.laws_calls.proofs.law.tries_leave_numbers.Goals as goal

pub returns : goal.returns
returns g = tries_leave_numbers
