use Rattle.std.proofs.Common.{◌++◌, ◌∙◌, ℕ, List, ap}
use Rattle.json.specs.Token.{Token}
use Rattle.sm_protocol.specs.State.{stream_id}
use Rattle.smpland_state.specs.State.{stream_state}
use Rattle.smpland_state.proofs.Written.{number_written}
use Rattle.smpland_state.proofs.state.plans.write_each_stream.Goals as goal

-- The streams so far, and the next.
pub loop-stream-preserved : goal.loop-stream-preserved
loop-stream-preserved c =
    let f : ℕ → List Token = λ i. stream_state c.args.opened.now.driver c.args.is_reopening (stream_id c.args.plan i) in
    c.in_ok-write_stream.ensures
    ∙ ap (λ xs. xs ++ f c.loop-stream.stream) c.loop-stream.invariant
    ∙ number_written f c.args.writer.now.tokens c.loop-stream.stream
