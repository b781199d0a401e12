use Rattle.journal_serve.proofs.Resumes.{beyond_has}
use Rattle.journal_serve.proofs.resuming.safe_lines_stay.Goals as goal

pub returns : goal.returns
returns c = beyond_has
