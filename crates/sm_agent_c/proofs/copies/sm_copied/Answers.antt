-- It is the answer of the function.
use Rattle.sm_agent_c.proofs.copies.sm_copied.Goals as goal

pub returns : goal.returns
returns g = (g.is_copied.result, g.done_if.ensures, g.is_copied.ensures)
