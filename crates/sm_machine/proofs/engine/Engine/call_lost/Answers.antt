-- A try that is lost on its way. A wrong version of the function fails here at once.
use Rattle.std.proofs.Common.{rules}
use Rattle.sm_machine.proofs.engine.Engine.call_lost.Goals as goal

pub returns : goal.returns
returns c = search rules
