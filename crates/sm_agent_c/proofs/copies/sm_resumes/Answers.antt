-- It is the answer of the function.
use Rattle.sm_agent_c.proofs.copies.sm_resumes.Goals as goal

pub returns : goal.returns
returns g = (g.resumes.result, g.done_if.ensures, g.resumes.ensures)
