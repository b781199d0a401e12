-- An entry more. A wrong version of the function fails here at once.
use Rattle.std.proofs.Common.{arith}
use Rattle.std.proofs.lemmas.Grind.{common_steps}
use Rattle.sm_machine.specs.State.{whole_of}
use Rattle.sm_machine.proofs.engine.Engine.publish.Goals as goal

pub returns : goal.returns
unfolding whole_of
returns c = grind (arith, common_steps)
