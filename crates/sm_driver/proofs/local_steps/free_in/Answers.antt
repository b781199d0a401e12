-- The lowest free stream of a plan.
use Rattle.std.proofs.Common.{sym, ap, ◌∙◌, arith, length}
use Rattle.sm_protocol.specs.State.{stream_count, stream_id}
use Rattle.sm_machine.specs.State.{state_of}
use Rattle.sm_machine.proofs.Engaged.{found, passed, chosen}
use Rattle.sm_driver.proofs.Searches.{free_at}
use Rattle.sm_driver.proofs.local_steps.free_in.Goals as goal

pub returns-then-goes_by_itself : goal.returns-then-goes_by_itself
returns-then-goes_by_itself c =
    let w = state_of c.args.machine.now in
    let same = ap length (c.streams-count.ensures.value ∙ ap (λ p. p.streams) c.plan.ensures) in
    let l = c.loop-stream-test.true in
    found (free_at w c.args.plan) (stream_count w c.args.plan) c.loop-stream.stream (stream_id c.args.plan c.loop-stream.stream)
    c.loop-stream.invariant (omega arith) (ap (chosen (stream_id c.args.plan c.loop-stream.stream)) (sym c.goes_by_itself.ensures ∙ c.if-goes_by_itself.true))

pub loop-stream-preserved : goal.loop-stream-preserved
loop-stream-preserved c =
    let w = state_of c.args.machine.now in
    let same = ap length (c.streams-count.ensures.value ∙ ap (λ p. p.streams) c.plan.ensures) in
    let l = c.loop-stream-test.true in
    passed (free_at w c.args.plan) (stream_count w c.args.plan) c.loop-stream.stream
    c.loop-stream.invariant (omega arith) (ap (chosen (stream_id c.args.plan c.loop-stream.stream)) (sym c.goes_by_itself.ensures ∙ c.if-goes_by_itself.false))
