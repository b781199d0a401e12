-- A request that is not the one the server is prepared for. A wrong version of the function fails here at once.
use Rattle.std.proofs.Common.{rules}
use Rattle.sm_machine.proofs.requests.answer_prepared.Goals as goal

pub returns-else-eq : goal.returns-else-eq
returns-else-eq c = search rules
