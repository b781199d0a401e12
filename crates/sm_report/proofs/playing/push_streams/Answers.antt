use Rattle.std.proofs.Common.{◌≡◌, ◌<◌, ◌∙◌, length, ap, refl, arith}
use Rattle.std.specs.Prelude.{slice_index_or}
use Rattle.std.proofs.lemmas.List.{get_or_default}
use Rattle.sm_plan_code.specs.Plan.{PlanModel, StreamModel}
use Rattle.sm_verifier.specs.Stream.{no_stream}
use Rattle.sm_protocol.specs.State.{plan_at, stream_id, stream_count, stream_parts}
use Rattle.sm_machine.specs.Machine.{MachineModel}
use Rattle.sm_machine.specs.State.{state_of}
use Rattle.sm_report.specs.PlayLines.{progress_line}
use Rattle.sm_report.proofs.EventTurns.{stream_added}
use Rattle.sm_report_text.proofs.Texts.{text_of_next}
use Rattle.sm_report.proofs.playing.push_streams.Goals as goal

pub loop-i-preserved : goal.loop-i-preserved
loop-i-preserved c =
    let w = state_of c.args.player.now.director in
    let streams = c.streams-streams.result.now in
    let streams_are : streams ≡ (plan_at w c.args.number).streams =
    c.streams-streams.ensures.value ∙ ap (λ (p : PlanModel). p.streams) c.plan.ensures ∙ ap (λ (m : MachineModel). (plan_at (state_of m) c.args.number).streams) c.machine.ensures in
    let count = ap length streams_are in
    let within : c.loop-i.i < length streams = omega arith in
    let below : c.loop-i.i < stream_count w c.args.number = omega (arith, count) in
    let part : c.index-streams-i.result ≡ stream_parts w (stream_id c.args.number c.loop-i.i) =
    c.index-streams-i.is ∙ get_or_default streams c.loop-i.i c.index-streams-i.result no_stream within ∙ ap (λ xs. slice_index_or xs c.loop-i.i no_stream) streams_are in
    let long : c.code_length.result ≡ length (stream_parts w (stream_id c.args.number c.loop-i.i)).code = c.code_length.ensures ∙ ap (λ (s : StreamModel). length s.code) part in
    text_of_next (λ i. progress_line c.args.many c.args.place w (stream_id c.args.number i)) _ _ _ c.loop-i.i (stream_count w c.args.number) below
    (stream_added c.args.many c.args.place w c.args.number c.loop-i.i _ _ _ _ refl long c.in_ok-push_stream.ensures) c.loop-i.invariant
