use Rattle.std.proofs.Common.{◌≡◌, drop}
use Rattle.sm_protocol.specs.Happens.{engaged}
use Rattle.sm_machine.specs.State.{state_of}
use Rattle.sm_machine.specs.Engaged.{engaged_by}
use Rattle.sm_machine.proofs.Unfinished.{first_in}
use Rattle.sm_machine.proofs.engine.Engine.engaged.Given as goal

abbrev pub invariant-loop-plan : goal.invariant-loop-plan
invariant-loop-plan l = first_in (engaged_by (state_of l.self) l.server) (drop l.plan-index l.plans) ≡ engaged (state_of l.self) l.server
