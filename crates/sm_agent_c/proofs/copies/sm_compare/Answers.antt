-- It is the answer of the function.
use Rattle.sm_agent_c.proofs.copies.sm_compare.Goals as goal

pub returns : goal.returns
returns g = (g.compare.result, g.code_of.ensures, g.compare.ensures)
