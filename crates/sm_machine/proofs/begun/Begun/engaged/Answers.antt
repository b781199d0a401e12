-- The lowest stream that engages a server.
use Rattle.std.proofs.Common.{sym, ap, ◌∙◌, arith, length}
use Rattle.sm_protocol.specs.State.{stream_id}
use Rattle.sm_machine.specs.Engaged.{engaging}
use Rattle.sm_machine.proofs.Engaged.{found, passed, chosen}
use Rattle.sm_machine.proofs.begun.Begun.engaged.Goals as goal

pub returns-then-engages : goal.returns-then-engages
returns-then-engages c =
    let same = ap length (c.streams-count.ensures.value ∙ ap (λ p. p.streams) c.plan.ensures.value) in
    let l = c.loop-stream-test.true in
    found (engaging c.args.self.now c.args.plan c.args.server) (length c.args.self.now.plan.streams) c.loop-stream.stream (stream_id c.args.plan c.loop-stream.stream)
    c.loop-stream.invariant (omega arith) (ap (chosen (stream_id c.args.plan c.loop-stream.stream)) (sym c.engages.ensures ∙ c.if-engages.true))

pub loop-stream-preserved : goal.loop-stream-preserved
loop-stream-preserved c =
    let same = ap length (c.streams-count.ensures.value ∙ ap (λ p. p.streams) c.plan.ensures.value) in
    let l = c.loop-stream-test.true in
    passed (engaging c.args.self.now c.args.plan c.args.server) (length c.args.self.now.plan.streams) c.loop-stream.stream
    c.loop-stream.invariant (omega arith) (ap (chosen (stream_id c.args.plan c.loop-stream.stream)) (sym c.engages.ensures ∙ c.if-engages.false))
