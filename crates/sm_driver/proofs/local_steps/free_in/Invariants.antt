use Rattle.sm_protocol.specs.State.{stream_count}
use Rattle.sm_machine.specs.State.{state_of}
use Rattle.sm_machine.proofs.Engaged.{IsLeft}
use Rattle.sm_driver.proofs.Searches.{free_at}
use Rattle.sm_driver.proofs.local_steps.free_in.Given as goal

abbrev pub invariant-loop-stream : goal.invariant-loop-stream
invariant-loop-stream l = IsLeft (free_at (state_of l.machine) l.plan) (stream_count (state_of l.machine) l.plan) l.stream
