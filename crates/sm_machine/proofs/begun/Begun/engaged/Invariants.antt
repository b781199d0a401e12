use Rattle.std.proofs.Common.{length}
use Rattle.sm_machine.specs.Engaged.{engaging}
use Rattle.sm_machine.proofs.Engaged.{IsLeft}
use Rattle.sm_machine.proofs.begun.Begun.engaged.Given as goal

abbrev pub invariant-loop-stream : goal.invariant-loop-stream
invariant-loop-stream l = IsLeft (engaging l.self l.plan l.server) (length l.self.plan.streams) l.stream
