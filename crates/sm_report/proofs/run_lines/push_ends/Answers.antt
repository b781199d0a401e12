use Rattle.std.proofs.Common.{◌≡◌, ◌<◌, ◌∙◌, length, ap, arith}
use Rattle.sm_plan_code.specs.Plan.{PlanModel}
use Rattle.sm_protocol.specs.State.{plan_at, stream_id, stream_count}
use Rattle.sm_machine.specs.State.{state_of}
use Rattle.sm_report.specs.RunLines.{end_line}
use Rattle.sm_report_text.proofs.Texts.{text_of_next}
use Rattle.sm_report.proofs.run_lines.push_ends.Goals as goal

pub loop-i-preserved : goal.loop-i-preserved
loop-i-preserved c =
    let w = state_of c.args.machine.now in
    let streams = c.streams-streams.result.now in
    let streams_are : streams ≡ (plan_at w 0).streams = c.streams-streams.ensures.value ∙ ap (λ (p : PlanModel). p.streams) c.plan.ensures in
    let count = ap length streams_are in
    let below : c.loop-i.i < stream_count w 0 = omega (arith, count) in
    text_of_next (λ i. end_line w (stream_id 0 i)) _ _ _ c.loop-i.i (stream_count w 0) below c.in_ok-push_end.ensures c.loop-i.invariant
