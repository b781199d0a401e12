-- A call that its server serves. A wrong version of the function fails here at once.
use Rattle.std.proofs.Common.{rules}
use Rattle.sm_machine.specs.State.{whole_of}
use Rattle.sm_machine.proofs.engine.Engine.serve.Goals as goal

pub returns-clause-effect : goal.returns-clause-effect
unfolding whole_of
returns-clause-effect c = search rules

pub returns-clause-whole : goal.returns-clause-whole
unfolding whole_of
returns-clause-whole c = search rules
