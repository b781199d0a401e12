use Rattle.std.proofs.Common.{◌∙◌, ℕ, ap}
use Rattle.sm_protocol.specs.State.{stream_id}
use Rattle.sm_protocol.specs.Next.{since_of}
use Rattle.sm_machine.specs.Machine.{MachineModel}
use Rattle.sm_machine.specs.State.{state_of}
use Rattle.sm_driver.specs.Driver.{record_of}
use Rattle.smpland_state.proofs.Written.{pushed_more}
use Rattle.smpland_state.proofs.messages.Messages.sinces.Goals as goal

-- Those of the streams so far, and of the next.
pub loop-stream-preserved : goal.loop-stream-preserved
loop-stream-preserved c =
    let f : ℕ → ℕ = λ i. since_of (record_of c.args.self.now.driver.now) (stream_id c.args.plan i) in
    let is = c.since.ensures ∙ ap (λ (m : MachineModel). since_of (state_of m) (stream_id c.args.plan c.loop-stream.stream)) c.machine-machine.ensures in
    pushed_more f c.loop-stream.sinces.items c.push.new.self.items c.loop-stream.stream c.since.result c.in_ok-push.ensures.items is c.loop-stream.invariant
