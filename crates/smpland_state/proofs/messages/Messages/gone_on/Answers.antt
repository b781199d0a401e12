use Rattle.std.proofs.Common.{◌++◌, ◌∷◌, ◌∙◌, [], ap}
use Rattle.std.specs.Prelude.{if◌then◌else◌, slice_get}
use Rattle.sm_protocol.specs.State.{stream_id}
use Rattle.sm_machine.specs.Machine.{MachineModel}
use Rattle.sm_machine.specs.State.{state_of}
use Rattle.sm_driver.specs.Driver.{record_of}
use Rattle.smpland_state.specs.Replies.{stands_else}
use Rattle.smpland_state.proofs.Written.{kept_more}
use Rattle.smpland_state.proofs.messages.Messages.gone_on.Goals as goal

-- Those of the streams so far, and the next one if it has gone on.
pub loop-stream-preserved : goal.loop-stream-preserved
loop-stream-preserved c =
    let id = stream_id c.args.plan c.loop-stream.stream in
    let pushed =
    (rw c.since_at-since.ensures at c.in_ok-push_if_new.ensures)
    ∙ ap (λ (m : MachineModel). c.loop-stream.ids.items ++ (if stands_else (state_of m) id (slice_get c.args.sinces.now c.loop-stream.stream) then id ∷ [] else [])) c.machine-machine.ensures in
    kept_more (stream_id c.args.plan) (λ id. stands_else (record_of c.args.self.now.driver.now) id (slice_get c.args.sinces.now id.stream))
    c.loop-stream.ids.items c.push_if_new.new.ids.items c.loop-stream.stream pushed c.loop-stream.invariant
