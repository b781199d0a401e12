-- The streams of a plan that wait for answers.
use Rattle.std.proofs.Common.{◌∙◌, ◌++◌, ℕ, Option, ap, refl}
use Rattle.std.specs.Option.{option_to_list}
use Rattle.sm_reservation.specs.declared.stream_id.StreamId.{StreamId}
use Rattle.sm_protocol.specs.State.{State, stream_id}
use Rattle.sm_machine.specs.State.{state_of}
use Rattle.sm_driver.specs.Orders.{awaiting}
use Rattle.sm_driver.proofs.Waiting.{found_more}
use Rattle.sm_driver.proofs.ordering.push_streams.Goals as goal

pub loop-stream-preserved : goal.loop-stream-preserved
loop-stream-preserved c =
    let w : State = state_of c.args.machine.now in
    let f : ℕ → Option StreamId = λ i. awaiting w (stream_id c.args.plan i) in
    let n = c.loop-stream.stream in
    c.in_ok-push_stream.ensures
    ∙ ap (λ ys. ys ++ option_to_list (f n)) c.loop-stream.invariant
    ∙ found_more f c.args.list.now.items (option_to_list (f n)) n refl
