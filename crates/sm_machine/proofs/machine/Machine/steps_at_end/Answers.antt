-- The tries of a stream are within its allowance.
use Rattle.sm_protocol.proofs.LogRoom.{has_room}
use Rattle.sm_machine.specs.State.{whole_of}
use Rattle.sm_machine.proofs.machine.Machine.steps_at_end.Goals as goal

pub steps_made-requires-clause-tries : goal.steps_made-requires-clause-tries
steps_made-requires-clause-tries c = (has_room (whole_of c.self.inside.engine).setup (whole_of c.self.inside.engine).state c.self.invariant.reached).tries c.args.id.plan c.args.id.stream
