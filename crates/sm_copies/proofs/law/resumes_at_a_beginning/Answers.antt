-- The law is the lemma.
use Rattle.sm_copies.proofs.Laws.{resumes-at-a-beginning}
use Rattle.sm_copies.proofs.law.resumes_at_a_beginning.Goals as goal

pub returns : goal.returns
returns g = resumes-at-a-beginning
